-- The shares of levels are tasks of which each row is in exactly one, and levels rise.
use Rattle.std.proofs.Common.{◌≡◌, ℕ, suc, zero, ◌+◌, ◌<◌, ◌≤◌, ◌∙◌, ◌++◌, ◌⊎◌, inl, inr, List, [], ◌∷◌, Bool, eqb, Contains, Some, None, length, get_or, map, arith, refl, ap, sym, subst}
use Rattle.std.specs.List.{slice_get, range_with_len, flat_map}
use Rattle.std.proofs.lemmas.Bool.{cases_eq, cases_lt, cases_order, eqb-true, eq-eqb}
use Rattle.std.proofs.lemmas.List.{get_or_past, get_or-map, length-map}
use Rattle.std.proofs.lemmas.List.FromFn.{length-map-range_with_len, get_or-map-range_with_len}
use Rattle.std.proofs.lemmas.Option.{same_Some, slice_get_within, get_or_from_slice_get, slice_get_read}
use Rattle.wave_base.specs.declared.types.RowId.{RowId}
use Rattle.row_graph.specs.Predecessors.{before, AreAscending}
use Rattle.row_graph.proofs.Members.{In, In-from, In-to}
use Rattle.row_graph.proofs.Ascending.{Climbing, ascending_from}
use Rattle.wave_levels.specs.Levels.{above, level_at, rows_at, AreLevels}
use Rattle.wave_levels.proofs.Above.{above-at}
use Rattle.wave_levels.proofs.RowsAt.{rows_at-members, rows_at-ascending}
use Rattle.sched_types.specs.declared.sched.RowTask.{RowTask}
use Rattle.sched_types.specs.Order.{Spot, IsAt}
use Rattle.super_tasks.specs.Shares.{AreWeights, worker_at, share, task_of, worker_tasks, groups}
use Rattle.super_tasks.proofs.Weighing.{rows_at-weighed, worker_at-below}
use Rattle.wait_sparsify.specs.Depends.{Depends, StandsIn, ArePlaced, AreLevelled}
use Rattle.wait_sparsify.proofs.Surviving.{climbing_from}
use Rattle.wait_sparsify.proofs.Deciding.{same_task}
use Rattle.plan_build.proofs.Sharing.{In-kept, In-kept_to, climbing-kept}

abbrev task : ℕ → List RowId → RowTask
task level rows = record { level = level; rows = rows }

-- the first task of some, or one of the others
at_first : (a : ℕ) (rows : List RowId) (rest : List RowTask) (i : ℕ) (t : RowTask) → slice_get (task_of a rows ++ rest) i ≡ Some t → ((i ≡ 0) × (t ≡ task a rows) × (0 < length rows)) ⊎ ((k : ℕ) × (slice_get rest k ≡ Some t) × (i ≡ length (task_of a rows) + k))
at_first a [] rest i t h = inr (i, h, omega arith)
at_first a (r ∷ rows) rest zero t h = inl (refl, sym (same_Some (task a (r ∷ rows)) t h), omega arith)
at_first a (r ∷ rows) rest (suc i) t h = inr (i, h, omega arith)

first_at : (a : ℕ) (rows : List RowId) (rest : List RowTask) → 0 < length rows → slice_get (task_of a rows ++ rest) 0 ≡ Some (task a rows)
first_at a [] rest h = absurd (omega (arith, h))
first_at a (r ∷ rows) rest h = refl

rest_at : (a : ℕ) (rows : List RowId) (rest : List RowTask) (k : ℕ) (t : RowTask) → slice_get rest k ≡ Some t → slice_get (task_of a rows ++ rest) (length (task_of a rows) + k) ≡ Some t
rest_at a [] rest k t h = let z : 0 + k ≡ k = omega arith in ap (λ n. slice_get rest n) z ∙ h
rest_at a (r ∷ rows) rest k t h = let z : 1 + k ≡ suc k = omega arith in ap (λ n. slice_get (task a (r ∷ rows) ∷ rest) n) z ∙ h

module _ (R : ℕ → List RowId) where
  abbrev from : ℕ → ℕ → List RowTask
  from a n = flat_map (λ l. task_of l (R l)) (range_with_len a n)

  level_of : (a n i : ℕ) (t : RowTask) → slice_get (from a n) i ≡ Some t → (a ≤ t.level) × (t.level < a + n) × (t.rows ≡ R t.level) × (0 < length t.rows)
  level_of a zero i t h = absurd (cc)
  level_of a (suc n) i t h =
      elim (at_first a (R a) (from (a + 1) n) i t h) as (λ _. (a ≤ t.level) × (t.level < a + suc n) × (t.rows ≡ R t.level) × (0 < length t.rows)) [
        | inl w ↦
            let l : t.level ≡ a = ap (λ (t : RowTask). t.level) w.1 in
            let r : t.rows ≡ R a = ap (λ (t : RowTask). t.rows) w.1 in
            let m : length t.rows ≡ length (R a) = ap length r in
            (omega (arith, l), omega (arith, l), r ∙ ap R (sym l), omega (arith, m, w.2))
        | inr w ↦
            let r = level_of (a + 1) n w.0 t w.1 in
            (omega (arith, r.0), omega (arith, r.1), r.2, r.3)
      ]

  rises : (a n i j : ℕ) (t u : RowTask) → i < j → slice_get (from a n) i ≡ Some t → slice_get (from a n) j ≡ Some u → t.level < u.level
  rises a zero i j t u l h k = absurd (cc)
  rises a (suc n) i j t u l h k =
      elim (at_first a (R a) (from (a + 1) n) j u k) as (λ _. t.level < u.level) [
        | inl w ↦ absurd (omega (arith, l, w.0))
        | inr w ↦ elim (at_first a (R a) (from (a + 1) n) i t h) as (λ _. t.level < u.level) [
          | inl v ↦
              let e : t.level ≡ a = ap (λ (t : RowTask). t.level) v.1 in
              omega (arith, e, (level_of (a + 1) n w.0 u w.1).0)
          | inr v ↦ rises (a + 1) n v.0 w.0 t u (omega (arith, l, v.2, w.2)) v.1 w.1
        ]
      ]

  has_level : (a n l : ℕ) → a ≤ l → l < a + n → 0 < length (R l) → (i : ℕ) × (slice_get (from a n) i ≡ Some (task l (R l)))
  has_level a zero l h k m = absurd (omega (arith, h, k))
  has_level a (suc n) l h k m =
      elim (cases_eq l a) as (λ _. (i : ℕ) × (slice_get (from a (suc n)) i ≡ Some (task l (R l)))) [
        | inl e ↦
            let f = first_at a (R a) (from (a + 1) n) (subst (λ (x : ℕ). 0 < length (R x)) e m) in
            (0, f ∙ ap (λ x. Some (task x (R x))) (sym e))
        | inr ne ↦
            let r = has_level (a + 1) n l (omega (arith, h, ne)) (omega (arith, k)) m in
            (length (task_of a (R a)) + r.0, rest_at a (R a) (from (a + 1) n) r.0 (task l (R l)) r.1)
      ]

-- a row of an ascending list stands at one place
one_place : (rows : List RowId) → AreAscending rows → (s k : ℕ) (r : RowId) → s < length rows → k < length rows → get_or rows s r ≡ r → get_or rows k r ≡ r → s ≡ k
one_place rows asc s k r l m e f =
    let a : (get_or rows s r).0 ≡ r.0 = ap (λ (r : RowId). r.0) e in
    let b : (get_or rows k r).0 ≡ r.0 = ap (λ (r : RowId). r.0) f in
    elim (cases_order s k) as (λ _. s ≡ k) [
      | inl q ↦ q
      | inr (inl lt) ↦ absurd (omega (arith, asc s k r lt m, a, b))
      | inr (inr gt) ↦ absurd (omega (arith, asc k s r gt l, a, b))
    ]

module _ (graph : List (List RowId)) (levels weights : List ℕ) (workers : ℕ) (are : AreLevels graph levels) (weigh : AreWeights (length levels) weights) (some : 0 < workers) where
  abbrev rows_for : ℕ → ℕ → List RowId
  rows_for w l = share weights workers (rows_at levels l) w

  abbrev passes : ℕ → ℕ → ℕ → Bool
  passes w l s = eqb (worker_at weights workers (rows_at levels l) s) w

  -- the task of a place is one of its worker's
  at_worker : (p : Spot) (t : RowTask) → IsAt (groups levels weights workers) p t → (p.worker < workers) × (slice_get (from (rows_for p.worker) 0 (above levels)) p.at ≡ Some t)
  at_worker p t h =
      elim (cases_lt p.worker workers) as (λ _. (p.worker < workers) × (slice_get (from (rows_for p.worker) 0 (above levels)) p.at ≡ Some t)) [
        | inl l ↦
            let e = get_or-map-range_with_len (worker_tasks levels weights workers) 0 workers p.worker p.worker [] l (omega arith) in
            (l, ap (λ (ts : List RowTask). slice_get ts p.at) (sym e) ∙ h)
        | inr g ↦
            let e = get_or_past (groups levels weights workers) p.worker [] (omega (arith, g, length-map-range_with_len (worker_tasks levels weights workers) 0 workers)) in
            let bad : None ≡ Some t = ap (λ (ts : List RowTask). slice_get ts p.at) (sym e) ∙ h in
            absurd (cc)
      ]

  worker_at-place : (w at : ℕ) (t : RowTask) → w < workers → slice_get (from (rows_for w) 0 (above levels)) at ≡ Some t → IsAt (groups levels weights workers) (record { worker = w; at = at }) t
  worker_at-place w at t l h =
      let e = get_or-map-range_with_len (worker_tasks levels weights workers) 0 workers w w [] l (omega arith) in
      ap (λ (ts : List RowTask). slice_get ts at) e ∙ h

  -- what is known of a row of a task
  record Known (p : Spot) (t : RowTask) (r : RowId) : Type 0 where
    within : r.0 < length levels
    level : level_at levels r ≡ t.level
    place : ℕ
    place_in : place < length (rows_at levels t.level)
    place_is : get_or (rows_at levels t.level) place r ≡ r
    worker : worker_at weights workers (rows_at levels t.level) place ≡ p.worker

  known : (p : Spot) (t : RowTask) (r : RowId) → IsAt (groups levels weights workers) p t → In r t.rows → Known p t r
  known p t r h i =
      let a = at_worker p t h in
      let l = level_of (rows_for p.worker) 0 (above levels) p.at t a.1 in
      let k = In-kept (passes p.worker t.level) 0 (rows_at levels t.level) r (subst (λ (rows : List RowId). In r rows) l.2 i) in
      let m = (rows_at-members levels t.level r).0 (k.0, k.1, k.2) in
      let z : k.0 ≡ 0 + k.0 = omega arith in
      record {
        within = m.0;
        level = m.1;
        place = k.0;
        place_in = k.1;
        place_is = k.2;
        worker = ap (worker_at weights workers (rows_at levels t.level)) z ∙ eqb-true (worker_at weights workers (rows_at levels t.level) (0 + k.0)) p.worker k.3;
      }

  in_rows : (rows : List RowId) (at : ℕ) (r : RowId) → slice_get rows at ≡ Some r → In r rows
  in_rows rows at r h = In-from rows r (at, slice_get_within rows at r h, get_or_from_slice_get rows at r r h)

  rows_alone : (r : RowId) (p : Spot) (at : ℕ) → StandsIn (groups levels weights workers) r p at → r.0 < length graph
  rows_alone r p at s = let k = known p s.0 r s.1 (in_rows s.0.rows at r s.2) in omega (arith, k.within, are.0)

  stands : (r : RowId) → r.0 < length graph → (p : Spot) × (at : ℕ) × StandsIn (groups levels weights workers) r p at
  stands r h =
      let n : r.0 < length levels = omega (arith, h, are.0) in
      let l = level_at levels r in
      let rows = rows_at levels l in
      let c = (rows_at-members levels l r).1 (n, refl) in
      let w = worker_at weights workers rows c.0 in
      let wl = worker_at-below weights rows workers c.0 (rows_at-weighed levels weights l weigh) c.1 some in
      let z : 0 + c.0 ≡ c.0 = omega arith in
      let i : In r (rows_for w l) = In-kept_to (passes w l) 0 rows c.0 r c.1 c.2 (eq-eqb (worker_at weights workers rows (0 + c.0)) w (ap (worker_at weights workers rows) z)) in
      let d = In-to (rows_for w l) r i in
      let up : l < 0 + above levels = omega (arith, above-at levels r.0 0 n) in
      let t = has_level (rows_for w) 0 (above levels) l (omega arith) up (omega (arith, d.1)) in
      let e : slice_get (rows_for w l) d.0 ≡ Some r = slice_get_read (rows_for w l) (length (rows_for w l)) d.0 r refl d.1 (sym d.2) in
      (record { worker = w; at = t.0 }, d.0, (task l (rows_for w l), worker_at-place w t.0 (task l (rows_for w l)) wl t.1, e))

  same_level : (p q : Spot) (t u : RowTask) → IsAt (groups levels weights workers) p t → IsAt (groups levels weights workers) q u → p.worker ≡ q.worker → t.level ≡ u.level → p.at ≡ q.at
  same_level p q t u h k e l =
      let a = (at_worker p t h).1 in
      let b = (at_worker q u k).1 in
      let a' = subst (λ (w : ℕ). slice_get (from (rows_for w) 0 (above levels)) p.at ≡ Some t) e a in
      elim (cases_order p.at q.at) as (λ _. p.at ≡ q.at) [
        | inl s ↦ s
        | inr (inl lt) ↦ absurd (omega (arith, l, rises (rows_for q.worker) 0 (above levels) p.at q.at t u lt a' b))
        | inr (inr gt) ↦ absurd (omega (arith, l, rises (rows_for q.worker) 0 (above levels) q.at p.at u t gt b a'))
      ]

  task_ascends : (p : Spot) (t : RowTask) → IsAt (groups levels weights workers) p t → AreAscending t.rows
  task_ascends p t h =
      let l = level_of (rows_for p.worker) 0 (above levels) p.at t (at_worker p t h).1 in
      let rows = rows_at levels t.level in
      let c = climbing-kept (passes p.worker t.level) 0 0 rows (climbing_from 0 rows (λ d h. omega arith) (rows_at-ascending levels t.level)) in
      ascending_from 0 t.rows (subst (Climbing 0) (sym l.2) c)

  once : (r : RowId) (p q : Spot) (at other_at : ℕ) → StandsIn (groups levels weights workers) r p at → StandsIn (groups levels weights workers) r q other_at → (p ≡ q) × (at ≡ other_at)
  once r p q at other_at x y =
      let t = x.0 in
      let u = y.0 in
      let a = known p t r x.1 (in_rows t.rows at r x.2) in
      let b = known q u r y.1 (in_rows u.rows other_at r y.2) in
      let l : t.level ≡ u.level = sym a.level ∙ b.level in
      let rows = rows_at levels u.level in
      let a_in = subst (λ (n : ℕ). a.place < length (rows_at levels n)) l a.place_in in
      let a_is = subst (λ (n : ℕ). get_or (rows_at levels n) a.place r ≡ r) l a.place_is in
      let a_worker = subst (λ (n : ℕ). worker_at weights workers (rows_at levels n) a.place ≡ p.worker) l a.worker in
      let s = one_place rows (rows_at-ascending levels u.level) a.place b.place r a_in b.place_in a_is b.place_is in
      let w : p.worker ≡ q.worker = sym a_worker ∙ ap (worker_at weights workers rows) s ∙ b.worker in
      let m = same_level p q t u x.1 y.1 w l in
      let e : p ≡ q = λ k. record { worker = w k; at = m k } in
      let same = same_task (groups levels weights workers) q t u (subst (λ (p : Spot). IsAt (groups levels weights workers) p t) e x.1) y.1 in
      let x2 : slice_get u.rows at ≡ Some r = subst (λ (t : RowTask). slice_get t.rows at ≡ Some r) same x.2 in
      (e, one_place u.rows (task_ascends q u y.1) at other_at r (slice_get_within u.rows at r x2) (slice_get_within u.rows other_at r y.2) (get_or_from_slice_get u.rows at r r x2) (get_or_from_slice_get u.rows other_at r r y.2))

  pub are_placed : ArePlaced (length graph) (groups levels weights workers)
  are_placed = record { rows_alone = rows_alone; stands = stands; once = once }

  lower : (i j : RowId) → Depends graph i j → (p q : Spot) (u t : RowTask) → IsAt (groups levels weights workers) p u → IsAt (groups levels weights workers) q t → Contains u.rows i → Contains t.rows j → u.level < t.level
  lower i j dep p q u t hu ht iu jt =
      let a = known p u i hu (In-from u.rows i iu) in
      let b = known q t j ht (In-from t.rows j jt) in
      let e = are.1 j.0 (omega (arith, b.within, are.0)) in
      let before_j = before graph j.0 in
      let m = above-at (map (level_at levels) before_j) dep.0 0 (omega (arith, dep.1, length-map before_j (level_at levels))) in
      let f = get_or-map (level_at levels) before_j dep.0 i 0 dep.1 ∙ ap (level_at levels) dep.2 in
      omega (arith, a.level, b.level, e, m, f)

  pub are_levelled : AreLevelled (Depends graph) (groups levels weights workers)
  are_levelled = record {
    none_empty = λ p t h. (level_of (rows_for p.worker) 0 (above levels) p.at t (at_worker p t h).1).3;
    rise = λ w i j t u l h k. rises (rows_for w) 0 (above levels) i j t u l (at_worker (record { worker = w; at = i }) t h).1 (at_worker (record { worker = w; at = j }) u k).1;
    lower = lower;
  }
