-- The order of a schedule with the kept waits has every cross pair, and so the schedule fits.
use Rattle.std.proofs.Common.{◌≡◌, ℕ, suc, zero, ◌+◌, ◌-◌, ◌<◌, ◌≤◌, ◌∙◌, inl, inr, List, [], ◌∷◌, Contains, Some, length, get_or, map, arith, refl, ap, sym, subst}
use Rattle.std.specs.List.{slice_get}
use Rattle.std.proofs.lemmas.Bool.{cases_eq, cases_lt, cases_order}
use Rattle.std.proofs.lemmas.List.{length-map}
use Rattle.std.proofs.lemmas.Option.{slice_get_within, get_or_from_slice_get, slice_get-get_or}
use Rattle.wave_base.specs.declared.types.RowId.{RowId}
use Rattle.sched_types.specs.declared.lists.Wait.{Wait}
use Rattle.sched_types.specs.declared.sched.Task.{Task}
use Rattle.sched_types.specs.declared.sched.RowTask.{RowTask}
use Rattle.sched_types.specs.Order.{Spot, IsAt, tasks_of, Before, by_worker, by_wait, through}
use Rattle.sched_types.specs.Kept.{IsCross, Plus, IsKept, HasKeptWaits}
use Rattle.sched_types.specs.Fits.{Stands, Fits}
use Rattle.wait_sparsify.specs.Depends.{Depends, StandsIn, ArePlaced, AreLevelled}
use Rattle.wait_sparsify.proofs.Places.{place, has-from, at-from}
use Rattle.wait_sparsify.proofs.Deciding.{same_task, plus_within, decide_between}

-- a task without its waits
abbrev pub strip : Task → RowTask
strip t = record { level = t.level; rows = t.rows }

abbrev pub strips : List (List Task) → List (List RowTask)
strips workers = map (λ ts. map (λ (t : Task). record { level = t.level; rows = t.rows }) ts) workers

strip-list : (ts : List Task) (at : ℕ) (t : Task) → slice_get ts at ≡ Some t → slice_get (map (λ (t : Task). record { level = t.level; rows = t.rows }) ts) at ≡ Some (strip t)
strip-list [] at t h = absurd (cc)
strip-list (x ∷ ts) zero t h = let e : x ≡ t = cc in ap (λ (t : Task). Some (strip t)) e
strip-list (x ∷ ts) (suc at) t h = strip-list ts at t h

strip-at : (workers : List (List Task)) (w at : ℕ) (t : Task) → slice_get (get_or workers w []) at ≡ Some t → slice_get (get_or (strips workers) w []) at ≡ Some (strip t)
strip-at [] w at t h = absurd (cc)
strip-at (ts ∷ workers) zero at t h = strip-list ts at t h
strip-at (ts ∷ workers) (suc w) at t h = strip-at workers w at t h

strip-long : (workers : List (List Task)) (w : ℕ) → length (get_or (strips workers) w []) ≡ length (get_or workers w [])
strip-long [] w = refl
strip-long (ts ∷ workers) zero = length-map ts (λ (t : Task). record { level = t.level; rows = t.rows })
strip-long (ts ∷ workers) (suc w) = strip-long workers w

module _ (graph : List (List RowId)) (lists : List (List RowTask)) (workers : List (List Task)) (levelled : AreLevelled (Depends graph) lists) (kept : HasKeptWaits (Depends graph) lists workers) where
  -- the tasks of the schedule are those that were handed in
  bare : (p : Spot) (t : Task) → IsAt workers p t → IsAt lists p (strip t)
  bare p t h =
      let s = strip-at workers p.worker p.at t h in
      subst (λ (ls : List (List RowTask)). slice_get (get_or ls p.worker []) p.at ≡ Some (strip t)) kept.same_tasks s

  long : (w : ℕ) → length (tasks_of lists w) ≡ length (tasks_of workers w)
  long w = ap (λ (ls : List (List RowTask)). length (get_or ls w [])) (sym kept.same_tasks) ∙ strip-long workers w

  many : length lists ≡ length workers
  many = ap length (sym kept.same_tasks) ∙ length-map workers (λ (ts : List Task). map (λ (t : Task). record { level = t.level; rows = t.rows }) ts)

  full : (p : Spot) (t : RowTask) → IsAt lists p t → (task : Task) × IsAt workers p task × (strip task ≡ t)
  full p t h =
      let d : Task = record { level = 0; rows = []; waits = [] } in
      let l : p.at < length (get_or workers p.worker []) = omega (arith, has-from lists p t h, long p.worker) in
      let task = get_or (get_or workers p.worker []) p.at d in
      let i : IsAt workers p task = slice_get-get_or (get_or workers p.worker []) p.at d l in
      (task, i, same_task lists p (strip task) t (bare p task i) h)

  on_one : (p q : Spot) → p.worker ≡ q.worker → p.at < q.at → q.at < length (tasks_of workers q.worker) → Before workers p q
  on_one p q e l h =
      let b : Before workers (place q.worker p.at) (place q.worker q.at) = by_worker l h in
      let z : place q.worker p.at ≡ p = λ x. place (sym e x) p.at in
      subst (λ (r : Spot). Before workers r q) z b

  by_kept : (p q : Spot) → IsKept (Depends graph) lists p q → Before workers p q
  by_kept p q k =
      let t = full q k.0.2 k.0.4 in
      let w = kept.waits q t.0 t.1 in
      by_wait (t.0, t.1, (w.kept_alone p).1 k)

  plus_rises : (p q : Spot) (u t : RowTask) → IsAt lists p u → IsAt lists q t → Plus (Depends graph) lists p q → u.level < t.level
  plus_rises p q u t hu ht (inl c) =
      let a = subst (λ (x : RowTask). Contains x.rows c.5) (same_task lists p c.1 u c.3 hu) c.7 in
      let b = subst (λ (x : RowTask). Contains x.rows c.6) (same_task lists q c.2 t c.4 ht) c.8 in
      levelled.lower c.5 c.6 c.9 p q u t hu ht a b
  plus_rises p q u t hu ht (inr e) =
      let z : p ≡ place q.worker p.at = λ x. place (e.0 x) p.at in
      levelled.rise q.worker p.at q.at u t e.1 (subst (λ (r : Spot). IsAt lists r u) z hu) ht

  ordered_within : (fuel : ℕ) (p q : Spot) (u t : RowTask) → IsAt lists p u → IsAt lists q t → t.level ≤ u.level + fuel → Plus (Depends graph) lists p q → Before workers p q
  ordered_within zero p q u t hu ht l plus = absurd (omega (arith, l, plus_rises p q u t hu ht plus))
  ordered_within (suc fuel) p q u t hu ht l (inr e) = on_one p q e.0 e.1 (omega (arith, e.2, long q.worker))
  ordered_within (suc fuel) p q u t hu ht l (inl c) =
      elim (decide_between graph lists p q) as (λ _. Before workers p q) [
        | inr none ↦ by_kept p q (c, none)
        | inl w ↦
            let v = w.0 in
            let m = at-from lists v (plus_within graph lists p v w.1.0) in
            let a = plus_rises p v u m.0 hu m.1 w.1.0 in
            let b = plus_rises v q m.0 t m.1 ht w.1.1 in
            through (ordered_within fuel p v u m.0 hu m.1 (omega (arith, l, b)) w.1.0) (ordered_within fuel v q m.0 t m.1 ht (omega (arith, l, a)) w.1.1)
      ]

  pub before_holds : (p q : Spot) → IsCross (Depends graph) lists p q → Before workers p q
  before_holds p q c = ordered_within c.2.level p q c.1 c.2 c.3 c.4 (omega arith) (inl c)

  row_in : (rows : List RowId) (at : ℕ) (r : RowId) → slice_get rows at ≡ Some r → Contains rows r
  row_in rows at r h = (at, slice_get_within rows at r h, get_or_from_slice_get rows at r r h)

  stands_in : (r : RowId) (p : Spot) (at : ℕ) → Stands workers r p at → StandsIn lists r p at
  stands_in r p at s = (strip s.0, bare p s.0 s.1, s.2)

  ordered : (i j : RowId) → Depends graph i j → (p q : Spot) (at other_at : ℕ) → Stands workers i p at → Stands workers j q other_at → Before workers p q
  ordered i j dep p q at other_at x y =
      let hu = bare p x.0 x.1 in
      let ht = bare q y.0 y.1 in
      let ix = row_in x.0.rows at i x.2 in
      let iy = row_in y.0.rows other_at j y.2 in
      let lv = levelled.lower i j dep p q (strip x.0) (strip y.0) hu ht ix iy in
      elim (cases_eq p.worker q.worker) as (λ _. Before workers p q) [
        | inr ne ↦ before_holds p q (ne, strip x.0, strip y.0, hu, ht, i, j, ix, iy, dep)
        | inl e ↦ elim (cases_order p.at q.at) as (λ _. Before workers p q) [
          | inl a ↦
              let z : p ≡ q = λ k. place (e k) (a k) in
              let s = same_task lists q (strip x.0) (strip y.0) (subst (λ (r : Spot). IsAt lists r (strip x.0)) z hu) ht in
              let n : x.0.level ≡ y.0.level = ap (λ (t : RowTask). t.level) s in
              absurd (omega (arith, lv, n))
          | inr (inl l) ↦ on_one p q e l (has-from workers q y.0 y.1)
          | inr (inr g) ↦
              let z : p ≡ place q.worker p.at = λ k. place (e k) p.at in
              let r = levelled.rise q.worker q.at p.at (strip y.0) (strip x.0) g ht (subst (λ (r : Spot). IsAt lists r (strip x.0)) z hu) in
              absurd (omega (arith, lv, r))
        ]
      ]

  -- the task that a wait is for
  waited : (q : Spot) (task : Task) (wait : Wait) → IsAt workers q task → Contains task.waits wait → IsKept (Depends graph) lists (place wait.worker (wait.count - 1)) q
  waited q task wait h c =
      let k = kept.waits q task h in
      let s = k.some_task wait c in
      let n : wait.count ≡ wait.count - 1 + 1 = omega (arith, s) in
      let e : wait ≡ record { worker = wait.worker; count = wait.count - 1 + 1 } = λ x. record { worker = wait.worker; count = n x } in
      (k.kept_alone (place wait.worker (wait.count - 1))).0 (subst (λ (w : Wait). Contains task.waits w) e c)

  some_worker : (w at : ℕ) (ls : List (List Task)) → at < length (get_or ls w []) → w < length ls
  some_worker w at [] h = absurd (omega (arith, h))
  some_worker zero at (l ∷ ls) h = omega arith
  some_worker (suc w) at (l ∷ ls) h = let r = some_worker w at ls h in omega (arith, r)

  waits_stand : (q : Spot) (task : Task) (wait : Wait) → IsAt workers q task → Contains task.waits wait → (wait.worker < length workers) × (1 ≤ wait.count) × (wait.count ≤ length (tasks_of workers wait.worker))
  waits_stand q task wait h c =
      let k = waited q task wait h c in
      let s = (kept.waits q task h).some_task wait c in
      let l : wait.count - 1 < length (tasks_of workers wait.worker) = omega (arith, has-from lists (place wait.worker (wait.count - 1)) k.0.1 k.0.3, long wait.worker) in
      (some_worker wait.worker (wait.count - 1) workers l, s, omega (arith, l, s))

  waits_rise : (q : Spot) (task first : Task) (wait : Wait) (at : ℕ) → IsAt workers q task → Contains task.waits wait → at < wait.count → IsAt workers (place wait.worker at) first → first.level < task.level
  waits_rise q task first wait at h c l hf =
      let k = waited q task wait h c in
      let p = place wait.worker (wait.count - 1) in
      let r = plus_rises p q k.0.1 (strip task) k.0.3 (bare q task h) (inl k.0) in
      let f = bare (place wait.worker at) first hf in
      elim (cases_lt at (wait.count - 1)) as (λ _. first.level < task.level) [
        | inl lt ↦ omega (arith, r, levelled.rise wait.worker at (wait.count - 1) (strip first) k.0.1 lt f k.0.3)
        | inr g ↦
            let e : at ≡ wait.count - 1 = omega (arith, g, l) in
            let s = same_task lists p (strip first) k.0.1 (subst (λ (n : ℕ). IsAt lists (place wait.worker n) (strip first)) e f) k.0.3 in
            let n : first.level ≡ k.0.1.level = ap (λ (t : RowTask). t.level) s in
            omega (arith, n, r)
      ]

  pub fits : (rows : ℕ) → ArePlaced rows lists → Fits rows (Depends graph) workers
  fits rows placed = record {
    rows_alone = λ r p at s. placed.rows_alone r p at (stands_in r p at s);
    none_empty = λ p task h. levelled.none_empty p (strip task) (bare p task h);
    stands = λ r h.
        let w = placed.stands r h in
        let t = full w.0 w.2.0 w.2.1 in
        let e : w.2.0.rows ≡ t.0.rows = ap (λ (t : RowTask). t.rows) (sym t.2) in
        (w.0, w.1, (t.0, t.1, subst (λ (rows : List RowId). slice_get rows w.1 ≡ Some r) e w.2.2));
    once = λ r p q at other_at x y. placed.once r p q at other_at (stands_in r p at x) (stands_in r q other_at y);
    ordered = ordered;
    waits_stand = waits_stand;
    levels_rise = λ w i j first second l h k. levelled.rise w i j (strip first) (strip second) l (bare (place w i) first h) (bare (place w j) second k);
    waits_rise = waits_rise;
  }
