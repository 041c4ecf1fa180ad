-- A round makes an action where one is left.
use Rattle.std.proofs.Common.{◌≡◌, ◌≢◌, ◌⊎◌, ℕ, zero, suc, ◌+◌, ◌<◌, ◌≤◌, Bool, true, false, cond, leb, List, [], ◌∷◌, ◌++◌, length, get_or, set, replicate, Option, Some, None, sym, refl, ap, ◌∙◌, subst, inl, inr, ⊎_elim, arith}
use Rattle.std.proofs.lemmas.List.{length-set, get_or-set_same, get_or-set_other}
use Rattle.std.proofs.lemmas.Bool.{leb-false, cases_eq}
use Rattle.std.proofs.lemmas.Option.{slice_get_within}
use Rattle.core_cells.specs.Cells.{at_cell}
use Rattle.core_law.specs.Works.{Work}
use Rattle.core_law.specs.Sequential.{kept}
use Rattle.core_law.specs.Fit.{IsFit}
use Rattle.core_law.specs.Scripts.{Action, look, read, write, finish, script, next}
use Rattle.core_law.specs.Machine.{Stand, State, stand, stand_of, place, moved, acted, event, run, Reached}
use Rattle.core_law.specs.Standing.{Passes}
use Rattle.core_law.specs.Ordered.{NeverFall}
use Rattle.core_law.specs.Rounds.{round_from, round, made_by, all_of, RoundsEnd}
use Rattle.core_law.proofs.Kept.{is_worker}
use Rattle.core_law.proofs.Facts as facts
use Rattle.core_law.proofs.Laying.{laid}
use Rattle.core_law.proofs.Steps.{reached_kept}

-- the state of the worker k is t or as before
abbrev Moves : State → ℕ → Stand → State → Type 0
Moves c k t c' = (c'.stands ≡ set c.stands k t) ⊎ (c'.stands ≡ c.stands)

here_or_not : (l : List Stand) (k : ℕ) (t : Stand) → (get_or (set l k t) k (stand 0 []) ≡ t) ⊎ (get_or (set l k t) k (stand 0 []) ≡ get_or l k (stand 0 []))
here_or_not [] k t = inr refl
here_or_not (s ∷ l) zero t = inl refl
here_or_not (s ∷ l) (suc k) t = here_or_not l k t

moves : (w : Work) (c : State) (k : ℕ) (a : Option Action) → (t : Stand) × (t.place ≡ suc (place c k)) × Moves c k t (acted w c k (stand_of c k) a)
moves w c k None = (stand (suc (place c k)) [], refl, inr refl)
moves w c k (Some (look f n)) = (stand (suc (place c k)) (stand_of c k).registers, refl, by (leb n (get_or c.counts f 0)))
  where
    by : (b : Bool) → Moves c k (stand (suc (place c k)) (stand_of c k).registers) (cond b (moved c k (stand (suc (place c k)) (stand_of c k).registers)) c)
    by true = inl refl
    by false = inr refl
moves w c k (Some (read b g x)) = (stand (suc (place c k)) (kept b (stand_of c k).registers ++ at_cell c.cells x ∷ []), refl, inl refl)
moves w c k (Some (write b g x)) = (stand (suc (place c k)) (kept b (stand_of c k).registers), refl, inl refl)
moves w c k (Some finish) = (stand (suc (place c k)) [], refl, inl refl)

module _ (w : Work) where
  other_stays : (c : State) (k i : ℕ) → i ≢ k → stand_of (event w k c) i ≡ stand_of c i
  other_stays c k i ne = let m = moves w c k (next w k (place c k)) in ⊎_elim
      (λ e. ap (λ (l : List Stand). get_or l i (stand 0 [])) e ∙ get_or-set_other c.stands k i m.0 (stand 0 []) ne)
      (λ e. ap (λ (l : List Stand). get_or l i (stand 0 [])) e)
      m.2

  place_up : (c : State) (k i : ℕ) → place c i ≤ place (event w k c) i
  place_up c k i = ⊎_elim
      (λ (e : i ≡ k). subst (λ (j : ℕ). place c j ≤ place (event w k c) j) (sym e) own)
      (λ (ne : i ≡ k → ⊥). let h = ap (λ (s : Stand). s.place) (other_stays c k i ne) in omega arith)
      (cases_eq i k)
    where
      own : place c k ≤ place (event w k c) k
      own = let m = moves w c k (next w k (place c k)) in let p = m.1 in ⊎_elim
          (λ e. ⊎_elim
          (λ (h : get_or (set c.stands k m.0) k (stand 0 []) ≡ m.0). let z = ap (λ (s : Stand). s.place) (ap (λ (l : List Stand). get_or l k (stand 0 [])) e ∙ h) in omega arith)
          (λ (h : get_or (set c.stands k m.0) k (stand 0 []) ≡ get_or c.stands k (stand 0 [])). let z = ap (λ (s : Stand). s.place) (ap (λ (l : List Stand). get_or l k (stand 0 [])) e ∙ h) in omega arith)
          (here_or_not c.stands k m.0))
          (λ e. let z = ap (λ (l : List Stand). (get_or l k (stand 0 [])).place) e in omega arith)
          m.2

  raised : (l : List ℕ) (k f : ℕ) → get_or l f 0 ≤ get_or (set l k (get_or l k 0 + 1)) f 0
  raised [] k f = omega arith
  raised (x ∷ xs) zero zero = omega arith
  raised (x ∷ xs) zero (suc f) = omega arith
  raised (x ∷ xs) (suc k) zero = omega arith
  raised (x ∷ xs) (suc k) (suc f) = raised xs k f

  counts_up : (c : State) (k f : ℕ) (a : Option Action) → get_or c.counts f 0 ≤ get_or (acted w c k (stand_of c k) a).counts f 0
  counts_up c k f None = omega arith
  counts_up c k f (Some (look g n)) = by (leb n (get_or c.counts g 0))
    where
      by : (b : Bool) → get_or c.counts f 0 ≤ get_or (cond b (moved c k (stand (suc (place c k)) (stand_of c k).registers)) c).counts f 0
      by true = omega arith
      by false = omega arith
  counts_up c k f (Some (read b g x)) = omega arith
  counts_up c k f (Some (write b g x)) = omega arith
  counts_up c k f (Some finish) = raised c.counts k f

  pub never_fall : (c : State) → NeverFall w c
  never_fall c k f = counts_up c k f (next w k (place c k))

  passes_up : (c : State) (k : ℕ) (a : Action) → Passes c a → Passes (event w k c) a
  passes_up c k (look f n) h = let u = never_fall c k f in omega arith
  passes_up c k (read b g x) h = tt
  passes_up c k (write b g x) h = tt
  passes_up c k finish h = tt

  own_step : (c : State) (k : ℕ) (a : Action) → k < length c.stands → Passes c a → place (acted w c k (stand_of c k) (Some a)) k ≡ suc (place c k)
  own_step c k (look f n) l h = by (leb n (get_or c.counts f 0)) refl
    where
      by : (b : Bool) → leb n (get_or c.counts f 0) ≡ b → place (cond b (moved c k (stand (suc (place c k)) (stand_of c k).registers)) c) k ≡ suc (place c k)
      by true e = ap (λ (s : Stand). s.place) (get_or-set_same c.stands k (stand (suc (place c k)) (stand_of c k).registers) (stand 0 []) l)
      by false e = absurd (let z = leb-false n (get_or c.counts f 0) e in omega arith)
  own_step c k (read b g x) l h = ap (λ (s : Stand). s.place) (get_or-set_same c.stands k (stand (suc (place c k)) (kept b (stand_of c k).registers ++ at_cell c.cells x ∷ [])) (stand 0 []) l)
  own_step c k (write b g x) l h = ap (λ (s : Stand). s.place) (get_or-set_same c.stands k (stand (suc (place c k)) (kept b (stand_of c k).registers)) (stand 0 []) l)
  own_step c k finish l h = ap (λ (s : Stand). s.place) (get_or-set_same c.stands k (stand (suc (place c k)) []) (stand 0 []) l)

  round_up : (n b : ℕ) (c : State) (i : ℕ) → place c i ≤ place (round_from w b n c) i
  round_up zero b c i = omega arith
  round_up (suc n) b c i = let one = place_up c b i in let more = round_up n (suc b) (event w b c) i in omega arith

  -- a worker that can step now has stepped after the round
  round_steps : (n b : ℕ) (c : State) (j : ℕ) (a : Action) → b ≤ j → j < b + n → j < length c.stands → next w j (place c j) ≡ Some a → Passes c a → place c j < place (round_from w b n c) j
  round_steps zero b c j a low high l is h = absurd (omega arith)
  round_steps (suc n) b c j a low high l is h = ⊎_elim
      (λ (e : j ≡ b). let own : place (event w j c) j ≡ suc (place c j) = ap (λ (o : Option Action). place (acted w c j (stand_of c j) o) j) is ∙ own_step c j a l h in
      let own' : place (event w b c) j ≡ suc (place c j) = subst (λ (q : ℕ). place (event w q c) j ≡ suc (place c j)) e own in
      let up = round_up n (suc b) (event w b c) j in omega arith)
      (λ (ne : j ≡ b → ⊥). let same = other_stays c b j ne in let p : place (event w b c) j ≡ place c j = ap (λ (s : Stand). s.place) same in
      let more = round_steps n (suc b) (event w b c) j a (omega arith) (omega arith) (let e = long c b in omega arith) (ap (next w j) p ∙ is) (passes_up c b a h) in omega arith)
      (cases_eq j b)
    where
      long : (c : State) (b : ℕ) → length (event w b c).stands ≡ length c.stands
      long c b = let m = moves w c b (next w b (place c b)) in ⊎_elim
          (λ e. ap (λ (l : List Stand). length l) e ∙ length-set c.stands b m.0)
          (λ e. ap (λ (l : List Stand). length l) e)
          m.2

  round_reached : (n b : ℕ) (c : State) → Reached w c → Reached w (round_from w b n c)
  round_reached zero b c r = r
  round_reached (suc n) b c r = round_reached n (suc b) (event w b c) (b ∷ r.0, ap (event w b) r.1)

  sum_up : (n : ℕ) (c c' : State) → ((i : ℕ) → place c i ≤ place c' i) → made_by n c ≤ made_by n c'
  sum_up zero c c' h = omega arith
  sum_up (suc n) c c' h = let a = sum_up n c c' h in let b = h n in omega arith

  sum_more : (n j : ℕ) (c c' : State) → ((i : ℕ) → place c i ≤ place c' i) → j < n → place c j < place c' j → made_by n c < made_by n c'
  sum_more zero j c c' h l lt = absurd (omega arith)
  sum_more (suc n) j c c' h l lt = ⊎_elim
      (λ (e : j ≡ n). let a = sum_up n c c' h in let b : place c n < place c' n = subst (λ (i : ℕ). place c i < place c' i) e lt in omega arith)
      (λ (ne : j ≡ n → ⊥). let a = sum_more n j c c' h (omega arith) lt in let b = h n in omega arith)
      (cases_eq j n)

  -- no worker is past its end
  event_bounded : (c : State) (k : ℕ) → ((i : ℕ) → place c i ≤ length (script w i)) → (i : ℕ) → place (event w k c) i ≤ length (script w i)
  event_bounded c k h i = ⊎_elim
      (λ (e : i ≡ k). subst (λ (j : ℕ). place (event w k c) j ≤ length (script w j)) (sym e) (own (next w k (place c k)) refl))
      (λ (ne : i ≡ k → ⊥). let z = ap (λ (s : Stand). s.place) (other_stays c k i ne) in let b = h i in omega arith)
      (cases_eq i k)
    where
      own : (a : Option Action) → next w k (place c k) ≡ a → place (acted w c k (stand_of c k) a) k ≤ length (script w k)
      own None e = h k
      own (Some a) e = let inside = slice_get_within (script w k) (place c k) a e in let m = moves w c k (Some a) in let p = m.1 in ⊎_elim
          (λ e. ⊎_elim
          (λ (h : get_or (set c.stands k m.0) k (stand 0 []) ≡ m.0). let z = ap (λ (s : Stand). s.place) (ap (λ (l : List Stand). get_or l k (stand 0 [])) e ∙ h) in omega arith)
          (λ (h : get_or (set c.stands k m.0) k (stand 0 []) ≡ get_or c.stands k (stand 0 [])). let z = ap (λ (s : Stand). s.place) (ap (λ (l : List Stand). get_or l k (stand 0 [])) e ∙ h) in omega arith)
          (here_or_not c.stands k m.0))
          (λ e. let z = ap (λ (l : List Stand). (get_or l k (stand 0 [])).place) e in omega arith)
          m.2

  fresh : (n k : ℕ) → (get_or (replicate n (stand 0 [])) k (stand 0 [])).place ≤ 0
  fresh zero k = omega arith
  fresh (suc n) zero = omega arith
  fresh (suc n) (suc k) = fresh n k

  run_bounded : (es : List ℕ) (i : ℕ) → place (run w es) i ≤ length (script w i)
  run_bounded [] i = let z = fresh (length w.workers) i in omega arith
  run_bounded (k ∷ es) i = event_bounded (run w es) k (run_bounded es) i

  sum_bounded : (n : ℕ) (c : State) → ((i : ℕ) → place c i ≤ length (script w i)) → made_by n c ≤ all_of w n
  sum_bounded zero c h = omega arith
  sum_bounded (suc n) c h = let a = sum_bounded n c h in let b = h n in omega arith

  pub places_bounded : (c : State) → Reached w c → (k : ℕ) → place c k ≤ length (script w k)
  places_bounded c r = subst (λ (d : State). (i : ℕ) → place d i ≤ length (script w i)) r.1 (run_bounded r.0)

  pub rounds_end : IsFit w → (c : State) → Reached w c → RoundsEnd w c
  rounds_end fit c r = let inv = reached_kept w fit (laid w fit) c r in record {
    reached = round_reached (length w.workers) 0 c r;
    more = ⊎_elim (λ e. inl e) (λ t. let j : ℕ = t.0 in let l = is_worker w j (place c j) t.1.0 t.1.1 in let n = inv.stands_long in
        inr (sum_more (length w.workers) j c (round w c) (round_up (length w.workers) 0 c) l (round_steps (length w.workers) 0 c j t.1.0 (omega arith) (omega arith) (omega arith) t.1.1 t.1.2)))
        (facts.ended_or_steps w fit (laid w fit) c inv);
    bounded = places_bounded c r;
    at_most = sum_bounded (length w.workers) c (places_bounded c r);
  }
