-- Which tasks survive.
use Rattle.std.proofs.Common.{◌≡◌, ℕ, suc, zero, ◌+◌, ◌<◌, ◌≤◌, inl, inr, List, [], ◌∷◌, Bool, true, false, cond, eqb, ◌||◌, length, get_or, arith, refl, ap, sym, subst}
use Rattle.std.proofs.lemmas.Bool.{eqb-false, ne_eqb, or_parts, or_from}
use Rattle.wave_base.specs.declared.types.RowId.{RowId}
use Rattle.row_graph.specs.Predecessors.{AreAscending}
use Rattle.row_graph.proofs.Members.{In}
use Rattle.row_graph.proofs.Ascending.{Climbing, Climbing-lower}
use Rattle.wait_sparsify.proofs.Skips.{skip, skip_first, skip_rest}
use Rattle.wait_sparsify.specs.Survivors.{is_followed, is_stamped, is_dropped, survivors}

pub Climbing-in : (low : ℕ) (rows : List RowId) (v : RowId) → Climbing low rows → In v rows → low ≤ v.0
Climbing-in low [] v c h = absurd h
Climbing-in low (r ∷ rows) v c (inl e) = let q : r.0 ≡ v.0 = ap (λ (r : RowId). r.0) e in omega (arith, c.0, q)
Climbing-in low (r ∷ rows) v c (inr h) = let m = Climbing-in (r.0 + 1) rows v c.1 h in omega (arith, c.0, m)

pub climbing_from : (low : ℕ) (rows : List RowId) → ((d : RowId) → 0 < length rows → low ≤ (get_or rows 0 d).0) → AreAscending rows → Climbing low rows
climbing_from low [] h asc = tt
climbing_from low (r ∷ rows) h asc =
    (h r (omega arith), climbing_from (r.0 + 1) rows (λ d l. (let a = asc zero (suc zero) d (omega arith) (omega (arith, l)) in omega (arith, a))) (λ i j d l m. asc (suc i) (suc j) d (omega (arith, l)) (omega (arith, m))))

module _ (owners earlier : List ℕ) (worker : ℕ) (among : List ℕ) (task : ℕ) (after : List (List RowId)) (top : ℕ) (mono : (a b : ℕ) → a ≤ b → b < top → get_or owners a 0 ≤ get_or owners b 0) where
  -- no later task among some is on the same worker
  abbrev pub NoLater : RowId → List RowId → Type 0
  NoLater u tasks = (v : RowId) → In v tasks → u.0 < v.0 → get_or owners u.0 0 ≡ get_or owners v.0 0 → ⊥

  pub record Survives (u : RowId) (tasks : List RowId) : Type 0 where
    pub listed : In u tasks
    pub not_earlier : get_or earlier u.0 0 ≡ worker → ⊥
    pub not_between : is_stamped among task (get_or after u.0 []) ≡ false
    pub no_later : NoLater u tasks

  abbrev pub left : List RowId → List RowId
  left tasks = survivors owners earlier worker among task after tasks

  abbrev pub out : RowId → List RowId → Bool
  out u tasks = is_dropped owners earlier worker among task after u tasks

  not_followed : (u : RowId) (tasks : List RowId) → is_followed owners u tasks ≡ false → Climbing (u.0 + 1) tasks → ((v : RowId) → In v tasks → v.0 < top) → NoLater u (u ∷ tasks)
  not_followed u tasks f c below v (inl e) l q = let s : u.0 ≡ v.0 = ap (λ (r : RowId). r.0) e in omega (arith, s, l)
  not_followed u [] f c below v (inr i) l q = i
  not_followed u (w ∷ tasks) f c below v (inr i) l q =
      let s : w.0 ≤ v.0 = Climbing-in w.0 (w ∷ tasks) v (omega arith, c.1) i in
      let a = mono u.0 w.0 (omega (arith, c.0)) (below w (inl refl)) in
      let b = mono w.0 v.0 s (below v i) in
      eqb-false (get_or owners u.0 0) (get_or owners w.0 0) f (omega (arith, a, b, q))

  pub survives : (low : ℕ) (tasks : List RowId) (x : RowId) → Climbing low tasks → ((v : RowId) → In v tasks → v.0 < top) → In x (left tasks) → Survives x tasks
  survives low [] x c below h = absurd h
  survives low (u ∷ tasks) x c below h =
      elim (skip (out u tasks) u (left tasks) x h) as (λ _. Survives x (u ∷ tasks)) [
        | inl w ↦
            let p = or_parts (is_followed owners u tasks) (eqb (get_or earlier u.0 0) worker || is_stamped among task (get_or after u.0 [])) w.0 in
            let q = or_parts (eqb (get_or earlier u.0 0) worker) (is_stamped among task (get_or after u.0 [])) p.1 in
            let here : Survives u (u ∷ tasks) = record {
              listed = inl refl;
              not_earlier = eqb-false (get_or earlier u.0 0) worker q.0;
              not_between = q.1;
              no_later = not_followed u tasks p.0 c.1 (λ v i. below v (inr i));
            } in
            subst (λ (x : RowId). Survives x (u ∷ tasks)) w.1 here
        | inr w ↦
            let r = survives (u.0 + 1) tasks x c.1 (λ v i. below v (inr i)) w in
            let above = Climbing-in (u.0 + 1) tasks x c.1 r.listed in
            record {
              listed = inr r.listed;
              not_earlier = r.not_earlier;
              not_between = r.not_between;
              no_later = λ v i l q. elim i as (λ _. ⊥) [
                | inl e ↦ let s : u.0 ≡ v.0 = ap (λ (r : RowId). r.0) e in omega (arith, s, l, above)
                | inr i ↦ r.no_later v i l q
              ];
            }
      ]

  followed_none : (u : RowId) (tasks : List RowId) → Climbing (u.0 + 1) tasks → NoLater u (u ∷ tasks) → is_followed owners u tasks ≡ false
  followed_none u [] c lacks = refl
  followed_none u (w ∷ tasks) c lacks = ne_eqb (get_or owners u.0 0) (get_or owners w.0 0) (lacks w (inr (inl refl)) (omega (arith, c.0)))

  pub survives_to : (low : ℕ) (tasks : List RowId) (x : RowId) → Climbing low tasks → Survives x tasks → In x tasks → In x (left tasks)
  survives_to low [] x c s h = absurd h
  survives_to low (u ∷ tasks) x c s (inl e) =
      let s' : Survives u (u ∷ tasks) = subst (λ (x : RowId). Survives x (u ∷ tasks)) (sym e) s in
      let f = followed_none u tasks c.1 s'.no_later in
      let a = ne_eqb (get_or earlier u.0 0) worker s'.not_earlier in
      let b = s'.not_between in
      let d = or_from (is_followed owners u tasks) (eqb (get_or earlier u.0 0) worker || is_stamped among task (get_or after u.0 [])) f (or_from (eqb (get_or earlier u.0 0) worker) (is_stamped among task (get_or after u.0 [])) a b) in
      subst (λ (x : RowId). In x (left (u ∷ tasks))) e (skip_first (out u tasks) u (left tasks) d)
  survives_to low (u ∷ tasks) x c s (inr h) =
      let rest : Survives x tasks = record { listed = h; not_earlier = s.not_earlier; not_between = s.not_between; no_later = λ v i. s.no_later v (inr i) } in
      skip_rest (out u tasks) u (left tasks) x (survives_to (u.0 + 1) tasks x c.1 rest h)

  climbing-skip : (b : Bool) (low : ℕ) (u : RowId) (tasks : List RowId) → low ≤ u.0 → Climbing (u.0 + 1) tasks → Climbing low (cond b tasks (u ∷ tasks))
  climbing-skip true low u tasks l c = Climbing-lower low (u.0 + 1) tasks (omega (arith, l)) c
  climbing-skip false low u tasks l c = (l, c)

  pub climbing-left : (low : ℕ) (tasks : List RowId) → Climbing low tasks → Climbing low (left tasks)
  climbing-left low [] c = tt
  climbing-left low (u ∷ tasks) c = climbing-skip (out u tasks) low u (left tasks) c.0 (climbing-left (u.0 + 1) tasks c.1)
