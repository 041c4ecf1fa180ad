-- Each step keeps the rule.
use Rattle.std.proofs.Common.{w64, ◌≡◌, ◌≢◌, ◌⊎◌, ℕ, zero, suc, ◌+◌, ◌<◌, ℤ, Bool, true, false, cond, leb, Some, List, [], ◌∷◌, ◌++◌, length, get_or, set, map, replicate, sym, refl, ap, ◌∙◌, subst, inl, inr, ⊎_elim, arith}
use Rattle.std.proofs.lemmas.Int.{to_z-of_z}
use Rattle.std.proofs.lemmas.List.{length-set, length-append, get_or-set_same, get_or-set_other, set-get_or, get_or_append_left, set-append_left}
use mathlib.Core.Option.{none, some, some-injective, some-ne-none}
use lib.ListN.{get_elem?}
use Rattle.atomic_table.specs.Table.{step, keeps, Allows, Splits, Joins, opening as table_opening}
use Rattle.atomic_table.proofs.Lists.{at_set, set_else}
use Rattle.wave_base.specs.declared.types.Cell.{Cell}
use Rattle.core_cells.specs.Cells.{at_cell, put}
use Rattle.core_words.specs.WordsOf.{words_of}
use Rattle.core_law.specs.Numbers.{instance_at}
use Rattle.core_law.specs.Sequential.{kept}
use Rattle.core_law.specs.Scripts.{Action, look, read, write, finish, script, next}
use Rattle.core_law.specs.Machine.{State, Stand, stand, stand_of, place, moved, acted, event, opening, Reached}
use Rattle.core_law.specs.Standing.{finished}
use Rattle.core_machine.specs.declared.work.Work.{Work}
use Rattle.core_machine.specs.FitWork.{plain}
use Rattle.done_words.specs.declared.view.Lead.{Lead}
use Rattle.done_words.specs.declared.view.Doing.{Doing}
use Rattle.done_words.specs.declared.view.View.{View}
use Rattle.done_words.specs.declared.view.View.TheVariants.{Spent, Main, Worker}
use Rattle.done_words.specs.WordsOf.{word_of, value_of, written, words_in, opening_words, word_number}
use Rattle.done_words.specs.Views.{leading, one_more, made_next, taken_back, next_of, passed, missed, look_by, read_by, write_by, after_finish}
use Rattle.done_words.specs.Rule.{IsIn, IsView, Table, Keeps}
use Rattle.done_words.specs.Told.{looked, has_read, has_written, has_finished}
use Rattle.done_words.specs.Sound.{IsSound}
use Rattle.done_words.proofs.Touched.{IsShared, counts_long, stands_long, counted, cell_fits, has_word}

at_bound : {A : Type 0} (l : List A) (i : ℕ) (a : A) → get_elem? l i ≡ some a → i < length l
at_bound [] i a e = absurd (some-ne-none a (sym e))
at_bound (x ∷ xs) zero a e = omega arith
at_bound (x ∷ xs) (suc i) a e = let h = at_bound xs i a e in omega arith

-- where the worker k and the others then stand
here : (l : List Stand) (k : ℕ) (t : Stand) → k < length l → get_or (set l k t) k (stand 0 []) ≡ t
here l k t h = get_or-set_same l k t (stand 0 []) h

others : (l : List Stand) (k j : ℕ) (t : Stand) → j ≢ k → get_or (set l k t) j (stand 0 []) ≡ get_or l j (stand 0 [])
others l k j t h = get_or-set_other l k j t (stand 0 []) h

at_longer_by_one : {A : Type 0} (l : List A) (a b : A) (j : ℕ) → get_elem? (l ++ a ∷ []) j ≡ some b → (get_elem? l j ≡ some b) ⊎ ((j ≡ length l) × (a ≡ b))
at_longer_by_one [] a b zero e = inr (refl, some-injective a b e)
at_longer_by_one [] a b (suc j) e = absurd (some-ne-none b (sym e))
at_longer_by_one (x ∷ xs) a b zero e = inl e
at_longer_by_one (x ∷ xs) a b (suc j) e = ⊎_elim inl (λ t. inr (ap suc t.0, t.1)) (at_longer_by_one xs a b j e)

module _ (w : Work) where
  -- the view of another seat still fits
  still_fits : (c c' : State) (made k : ℕ) (joined : List ℕ) (j : ℕ) (v : View) → j ≢ suc k → ((i : ℕ) → i ≢ k → stand_of c' i ≡ stand_of c i)
      → IsView w c made joined j v → IsView w c' made joined j v
  still_fits c c' made k joined j Spent other same h = h
  still_fits c c' made k joined j (Main m) other same h = h
  still_fits c c' made k joined j (Worker d) other same h = (h.0, h.1, h.2, same d.worker (λ e. other (h.0 ∙ ap suc e)) ∙ h.3)

  pub mine : (s : Table) (r : Keeps w s) (id : ℕ) (d : Doing) → get_elem? s.views id ≡ some (Worker d)
      → (id ≡ suc d.worker) × (d.work ≡ w) × ¬ IsIn d.worker r.joined × (stand_of r.state d.worker ≡ stand d.place d.registers) × (d.worker < r.made)
  mine s r id d at_id = let h = r.each id (Worker d) at_id in let b = at_bound s.views id (Worker d) at_id in let e = h.0 in let n = r.views_are in (h.0, h.1, h.2, h.3, omega arith)

  -- the worker k at t, whose next action is a, does it
  reach : (c : State) (k : ℕ) (t : Stand) (a : Action) → Reached (plain w) c → stand_of c k ≡ t → next (plain w) k t.place ≡ Some a → Reached (plain w) (acted (plain w) c k t (Some a))
  reach c k t a r at_t is = (k ∷ r.0, ap (event (plain w) k) r.1 ∙ (ap (λ (u : Stand). acted (plain w) c k u (next (plain w) k u.place)) at_t ∙ ap (acted (plain w) c k t) is))

  -- the worker of d goes on to d', and the state to c'
  goes : (s : Table) (r : Keeps w s) (id : ℕ) (d d' : Doing) (c' : State) (words' : List ℕ) → get_elem? s.views id ≡ some (Worker d)
      → d'.work ≡ d.work → d'.worker ≡ d.worker → Reached (plain w) c' → words' ≡ words_in w c' → stand_of c' d.worker ≡ stand d'.place d'.registers
      → ((i : ℕ) → i ≢ d.worker → stand_of c' i ≡ stand_of r.state i)
      → Keeps w record { words = words'; homes = s.homes; views = set s.views id (Worker d') }
  goes s r id d d' c' words' at_id same_work same_worker reached words_are stands same = let m = mine s r id d at_id in record {
    state = c';
    reached = reached;
    words_are = words_are;
    made = r.made;
    joined = r.joined;
    views_are = length-set s.views id (Worker d') ∙ r.views_are;
    made_inside = r.made_inside;
    each = λ j v e. ⊎_elim
        (λ (t : (j ≡ id) × (Worker d' ≡ v)). subst (λ (z : ℕ × View). IsView w c' r.made r.joined z.0 z.1) (λ i. (sym t.0 i, t.1 i))
        (m.0 ∙ ap suc (sym same_worker), same_work ∙ m.1, subst (λ (k : ℕ). ¬ IsIn k r.joined) (sym same_worker) m.2, ap (stand_of c') same_worker ∙ stands))
        (λ (t : (j ≢ id) × (get_elem? s.views j ≡ some v)). still_fits r.state c' r.made d.worker r.joined j v (λ h. t.0 (h ∙ sym m.0)) same (r.each j v t.1))
        (at_set s.views id j (Worker d') v e);
    unmade = λ k h. let b = m.4 in same k (λ e. absurd (omega arith)) ∙ r.unmade k h;
    ended = λ k h. ((r.ended k h).0, ap (λ (t : Stand). t.place) (same k (λ e. m.2 (subst (λ (i : ℕ). IsIn i r.joined) e h))) ∙ (r.ended k h).1);
  }

module _ (w : Work) (sound : ∥ IsSound w ∥₁) where
  module _ (s : Table) (r : Keeps w s) (id : ℕ) (d : Doing) (at_id : get_elem? s.views id ≡ some (Worker d)) where
    abbrev now : Stand
    now = stand d.place d.registers

    -- the event of the next action a
    makes : (a : Action) → next_of d ≡ Some a → Reached (plain w) (acted (plain w) r.state d.worker now (Some a))
    makes a is = let m = mine w s r id d at_id in
        reach w r.state d.worker now a r.reached m.3 (ap (λ (u : Work). next (plain u) d.worker d.place) (sym m.1) ∙ is)

    inside : d.worker < length r.state.stands
    inside = let z = stands_long w sound r.state r.reached in let m = (mine w s r id d at_id).4 in let f = r.made_inside in omega arith

    -- the count of the worker f is the word f
    pub count_is : (f : ℕ) → f < length w.sched.workers → get_or s.words f 0 ≡ get_or r.state.counts f 0
    count_is f h = let e = counts_long w sound r.state r.reached in
        ap (λ (l : List ℕ). get_or l f 0) r.words_are ∙ get_or_append_left r.state.counts (map word_of (words_of (written w.nest) r.state.cells)) 0 f (omega arith)

    -- the word of a cell holds its value
    pub cell_is : (cell : Cell) → IsShared w cell → get_or s.words (word_number w cell) 0 ≡ word_of (at_cell r.state.cells cell)
    cell_is cell shared = ap (λ (l : List ℕ). get_or l (word_number w cell) 0) r.words_are ∙ (has_word w sound r.state r.reached cell shared).word

    look_now : (f need : ℕ) → next_of d ≡ Some (look f need) → f < length w.sched.workers → (b : Bool) → leb need (get_or s.words f 0) ≡ b
        → Keeps w record { words = s.words; homes = s.homes; views = set s.views id (cond b (passed d) (missed d f (get_or s.words f 0) need)) }
    look_now f need is h true e = let t : Stand = stand (suc d.place) d.registers in goes w s r id d (record d { place = suc d.place }) (moved r.state d.worker t) s.words at_id refl refl
        (subst (λ (b : Bool). Reached (plain w) (cond b (moved r.state d.worker t) r.state)) (ap (leb need) (sym (count_is f h)) ∙ e) (makes (look f need) is))
        r.words_are (here r.state.stands d.worker t inside) (λ i n. others r.state.stands d.worker i t n)
    look_now f need is h false e = goes w s r id d _ r.state s.words at_id refl refl r.reached r.words_are (mine w s r id d at_id).3 (λ i n. refl)

    read_now : (b : Bool) (g : ℕ) (cell : Cell) → IsShared w cell → next_of d ≡ Some (read b g cell)
        → Keeps w record { words = s.words; homes = s.homes; views = set s.views id (read_by d (value_of (get_or s.words (word_number w cell) 0)) (Some (read b g cell))) }
    read_now b g cell shared is =
        let v : ℤ = value_of (get_or s.words (word_number w cell) 0) in
        let same : v ≡ at_cell r.state.cells cell = ap value_of (cell_is cell shared) ∙ to_z-of_z w64 (at_cell r.state.cells cell) (cell_fits w sound r.state r.reached cell shared.small) in
        let t : Stand = stand (suc d.place) (kept b d.registers ++ v ∷ []) in
        goes w s r id d (record d { place = suc d.place; registers = kept b d.registers ++ v ∷ [] }) (moved r.state d.worker t) s.words at_id refl refl
        (subst (λ (n : ℤ). Reached (plain w) (moved r.state d.worker (stand (suc d.place) (kept b d.registers ++ n ∷ [])))) (sym same) (makes (read b g cell) is))
        r.words_are (here r.state.stands d.worker t inside) (λ i n. others r.state.stands d.worker i t n)

    write_now : (b : Bool) (g : ℕ) (cell : Cell) (n : ℤ) → IsShared w cell → next_of d ≡ Some (write b g cell) → n ≡ (instance_at (plain d.work) g).value (kept b d.registers)
        → Keeps w record { words = set s.words (word_number w cell) (word_of n); homes = s.homes; views = set s.views id (write_by d (Some (write b g cell))) }
    write_now b g cell n shared is value =
        let t : Stand = stand (suc d.place) (kept b d.registers) in
        let stored : n ≡ (instance_at (plain w) g).value (kept b d.registers) = value ∙ ap (λ (u : Work). (instance_at (plain u) g).value (kept b d.registers)) (mine w s r id d at_id).1 in
        goes w s r id d (record d { place = suc d.place; registers = kept b d.registers }) (acted (plain w) r.state d.worker now (Some (write b g cell))) (set s.words (word_number w cell) (word_of n)) at_id refl refl
        (makes (write b g cell) is)
        (ap (λ (l : List ℕ). set l (word_number w cell) (word_of n)) r.words_are
        ∙ ((has_word w sound r.state r.reached cell shared).set n
        ∙ ap (λ (v : ℤ). r.state.counts ++ map word_of (words_of (written w.nest) (put r.state.cells cell v))) stored))
        (here r.state.stands d.worker t inside) (λ i ne. others r.state.stands d.worker i t ne)

    finish_now : (n : ℕ) → next_of d ≡ Some finish → finished (plain d.work) d.worker d.place ≡ n
        → Keeps w record { words = set s.words d.worker (n + 1); homes = s.homes; views = set s.views id (after_finish (Worker d)) }
    finish_now n is done =
        let t : Stand = stand (suc d.place) [] in
        let m = mine w s r id d at_id in
        let l = counts_long w sound r.state r.reached in
        let made = r.made_inside in
        let small = m.4 in
        let cells : List ℕ = map word_of (words_of (written w.nest) r.state.cells) in
        let count : get_or r.state.counts d.worker 0 ≡ n = counted w sound r.state r.reached d.worker
        ∙ (ap (λ (u : Stand). finished (plain w) d.worker u.place) m.3 ∙ (ap (λ (u : Work). finished (plain u) d.worker d.place) (sym m.1) ∙ done)) in
        goes w s r id d (record d { place = suc d.place; registers = [] }) (acted (plain w) r.state d.worker now (Some finish)) (set s.words d.worker (n + 1)) at_id refl refl
        (makes finish is)
        (ap (λ (q : List ℕ). set q d.worker (n + 1)) r.words_are
        ∙ (set-append_left r.state.counts cells d.worker (n + 1) (omega arith) ∙ ap (λ (v : ℕ). set r.state.counts d.worker (v + 1) ++ cells) (sym count)))
        (here r.state.stands d.worker t inside) (λ i ne. others r.state.stands d.worker i t ne)

  pub looks : (slots id : ℕ) (d : Doing) (held : List (ℕ × Unit {0})) (f need : ℕ) → next_of d ≡ Some (look f need) → f < length w.sched.workers
      → Allows (Keeps w) slots id (Worker d, held) f (λ n. n) (looked (step slots f 0 0 none) (Worker d, held))
  looks slots id d held f need is h s r deep at_id small = let n : ℕ = get_or s.words f 0 in let m = mine w s r id d at_id in (
    look_by d f n (next_of d),
    keeps,
    tt,
    subst (λ (x : List ℕ × View). Keeps w record { words = x.0; homes = s.homes; views = set s.views id x.1 }) (λ i. (sym (set-get_or s.words f 0) i, ap (look_by d f n) (sym is) i))
        (look_now s r id d at_id f need is h (leb need n) refl),
    (refl, (s, subst (λ (u : Work). Keeps u s) (sym m.1) r, subst (λ (j : ℕ). get_elem? s.views j ≡ some (Worker d)) m.0 at_id, refl)),
  )

  pub reads : (slots id : ℕ) (d : Doing) (held : List (ℕ × Unit {0})) (b : Bool) (g : ℕ) (cell : Cell) (i : ℕ) → i ≡ word_number w cell → IsShared w cell → next_of d ≡ Some (read b g cell)
      → Allows (Keeps w) slots id (Worker d, held) i (λ n. n) (has_read (step slots i 0 0 none) (Worker d, held))
  reads slots id d held b g cell i at_i shared is s r deep at_id small = let m = mine w s r id d at_id in (
    read_by d (value_of (get_or s.words i 0)) (next_of d),
    keeps,
    tt,
    subst (λ (x : List ℕ × View). Keeps w record { words = x.0; homes = s.homes; views = set s.views id x.1 })
        (λ k. (sym (set-get_or s.words i 0) k, read_by d (value_of (get_or s.words (sym at_i k) 0)) (sym is k)))
        (read_now s r id d at_id b g cell shared is),
    (refl, (s, subst (λ (u : Work). Keeps u s) (sym m.1) r, subst (λ (j : ℕ). get_elem? s.views j ≡ some (Worker d)) m.0 at_id, refl)),
  )

  pub writes : (slots id : ℕ) (d : Doing) (held : List (ℕ × Unit {0})) (b : Bool) (g : ℕ) (cell : Cell) (n : ℤ) (i u : ℕ) → i ≡ word_number w cell → u ≡ word_of n → IsShared w cell
      → next_of d ≡ Some (write b g cell) → n ≡ (instance_at (plain d.work) g).value (kept b d.registers)
      → Allows (Keeps w) slots id (Worker d, held) i (λ _. u) (λ _. has_written (step slots i u 0 none) (Worker d, held) u)
  writes slots id d held b g cell n i u at_i is_u shared is value s r deep at_id small = (
    write_by d (next_of d),
    keeps,
    tt,
    subst (λ (x : List ℕ × View). Keeps w record { words = x.0; homes = s.homes; views = set s.views id x.1 })
        (λ k. (set s.words (sym at_i k) (sym is_u k), write_by d (sym is k)))
        (write_now s r id d at_id b g cell n shared is value),
    refl,
  )

  pub finishes : (slots id : ℕ) (d : Doing) (held : List (ℕ × Unit {0})) (n : ℕ) → next_of d ≡ Some finish → finished (plain d.work) d.worker d.place ≡ n
      → Allows (Keeps w) slots id (Worker d, held) d.worker (λ _. n + 1) (λ _. has_finished (step slots d.worker (n + 1) 0 none) (Worker d, held) (n + 1))
  finishes slots id d held n is done s r deep at_id small = (after_finish (Worker d), keeps, tt, finish_now s r id d at_id n is done, refl)

module _ (w : Work) where
  pub main_of : (s : Table) (r : Keeps w s) (id : ℕ) (m : Lead) → get_elem? s.views id ≡ some (Main m) → (id ≡ 0) × (m.work ≡ w) × (m.made ≡ r.made) × (m.joined ≡ r.joined)
  main_of s r id m e = r.each id (Main m) e

  one_more_fits : (c : State) (made : ℕ) (joined : List ℕ) (j : ℕ) (v : View) → j ≢ 0 → IsView w c made joined j v → IsView w c (suc made) joined j v
  one_more_fits c made joined j Spent other h = h
  one_more_fits c made joined j (Main m) other h = absurd (other h.0)
  one_more_fits c made joined j (Worker d) other h = h

  pub splits : (id : ℕ) (m : Lead) → m.made < length w.sched.workers → Splits (Keeps w) id (Main m) (one_more (Main m)) (made_next (Main m))
  splits id m room s r at_id = let h = main_of s r id m at_id in let left : View = one_more (Main m) in let right : View = made_next (Main m) in let is : m.made ≡ r.made = h.2 in record {
    state = r.state;
    reached = r.reached;
    words_are = r.words_are;
    made = suc r.made;
    joined = r.joined;
    views_are = (let a = length-append (set s.views id left) (right ∷ []) in let b = length-set s.views id left in let c = r.views_are in omega arith);
    made_inside = omega arith;
    each = λ j v e. ⊎_elim
        (λ (t : get_elem? (set s.views id left) j ≡ some v). ⊎_elim
        (λ (u : (j ≡ id) × (left ≡ v)). subst (λ (z : ℕ × View). IsView w r.state (suc r.made) r.joined z.0 z.1) (λ i. (sym u.0 i, u.1 i))
        (h.0, h.1, ap suc is, h.3))
        (λ (u : (j ≢ id) × (get_elem? s.views j ≡ some v)). one_more_fits r.state r.made r.joined j v (λ z. u.0 (z ∙ sym h.0)) (r.each j v u.1))
        (at_set s.views id j left v t))
        (λ (t : (j ≡ length (set s.views id left)) × (right ≡ v)). subst (λ (z : ℕ × View). IsView w r.state (suc r.made) r.joined z.0 z.1) (λ i. (sym t.0 i, t.1 i))
        (length-set s.views id left ∙ (r.views_are ∙ ap suc (sym is)), h.1, (λ z. absurd (let b = (r.ended m.made z).0 in omega arith)), r.unmade m.made (omega arith)))
        (at_longer_by_one (set s.views id left) right v j e);
    unmade = λ k l. r.unmade k (omega arith);
    ended = λ k z. let e = r.ended k z in let b = e.0 in (omega arith, e.1);
  }

  joined_fits : (c : State) (made k : ℕ) (joined : List ℕ) (j : ℕ) (v : View) → j ≢ 0 → j ≢ suc k → IsView w c made joined j v → IsView w c made (k ∷ joined) j v
  joined_fits c made k joined j Spent main other h = (h.0, h.1, inr h.2)
  joined_fits c made k joined j (Main m) main other h = absurd (main h.0)
  joined_fits c made k joined j (Worker d) main other h = (h.0, h.1, (λ t. ⊎_elim (λ (e : d.worker ≡ k). other (h.0 ∙ ap suc e)) h.2 t), h.3)

  pub joins : (id other : ℕ) (m : Lead) (d : Doing) → d.place ≡ length (script (plain d.work) d.worker) → Joins (Keeps w) id (Main m) other (Worker d) (taken_back (Main m) (Worker d)) Spent
  joins id other m d end s r at_id apart at_other = let both : View = taken_back (Main m) (Worker d) in let at_d : get_elem? s.views other ≡ some (Worker d) = sym (set_else s.views id other both apart) ∙ at_other in
      let h = main_of s r id m at_id in let mi = mine w s r other d at_d in record {
        state = r.state;
        reached = r.reached;
        words_are = r.words_are;
        made = r.made;
        joined = d.worker ∷ r.joined;
        views_are = length-set (set s.views id both) other Spent ∙ (length-set s.views id both ∙ r.views_are);
        made_inside = r.made_inside;
        each = λ j v e. ⊎_elim
            (λ (t : (j ≡ other) × (Spent ≡ v)). subst (λ (z : ℕ × View). IsView w r.state r.made (d.worker ∷ r.joined) z.0 z.1) (λ i. (sym t.0 i, t.1 i)) (d.worker, mi.0, inl refl))
            (λ (t : (j ≢ other) × (get_elem? (set s.views id both) j ≡ some v)). ⊎_elim
            (λ (u : (j ≡ id) × (both ≡ v)). subst (λ (z : ℕ × View). IsView w r.state r.made (d.worker ∷ r.joined) z.0 z.1) (λ i. (sym u.0 i, u.1 i)) (h.0, h.1, h.2, ap (λ (l : List ℕ). d.worker ∷ l) h.3))
            (λ (u : (j ≢ id) × (get_elem? s.views j ≡ some v)). joined_fits r.state r.made d.worker r.joined j v (λ z. u.0 (z ∙ sym h.0)) (λ z. t.0 (z ∙ sym mi.0)) (r.each j v u.1))
            (at_set s.views id j both v t.1))
            (at_set (set s.views id both) other j Spent v e);
        unmade = r.unmade;
        ended = λ k z. ⊎_elim
            (λ (e : k ≡ d.worker). subst (λ (i : ℕ). (i < r.made) × (place r.state i ≡ length (script (plain w) i))) (sym e)
            (mi.4, ap (λ (t : Stand). t.place) mi.3 ∙ (end ∙ ap (λ (u : Work). length (script (plain u) d.worker)) mi.1)))
            (r.ended k) z;
      }

  stands_fresh : (m k : ℕ) → get_or (replicate m (stand 0 [])) k (stand 0 []) ≡ stand 0 []
  stands_fresh zero k = refl
  stands_fresh (suc m) zero = refl
  stands_fresh (suc m) (suc k) = stands_fresh m k

  first_fits : (j : ℕ) (v : View) → get_elem? (leading w ∷ []) j ≡ some v → IsView w (opening (plain w)) 0 [] j v
  first_fits zero v e = subst (IsView w (opening (plain w)) 0 [] 0) (some-injective (leading w) v e) (refl, refl, refl, refl)
  first_fits (suc j) v e = absurd (some-ne-none v (sym e))

  pub opens : Keeps w (table_opening (opening_words w) [] (leading w))
  opens = record {
    state = opening (plain w);
    reached = ([], refl);
    words_are = refl;
    made = 0;
    joined = [];
    views_are = refl;
    made_inside = omega arith;
    each = first_fits;
    unmade = λ k l. stands_fresh (length w.sched.workers) k;
    ended = λ k z. absurd z;
  }
