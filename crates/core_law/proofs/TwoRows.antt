-- The two rows are a fit work.
use Rattle.std.proofs.Common.{◌≡◌, ℕ, zero, suc, ◌<◌, ◌≤◌, [], ◌∷◌, length, get_or, Some, sym, refl, ap, ◌∙◌, subst, arith}
use Rattle.std.specs.Prelude.{slice_get, Contains}
use Rattle.wave_base.specs.declared.types.RowId.{RowId}
use Rattle.wave_base.specs.declared.types.Cell.{Cell}
use Rattle.sched_types.specs.declared.lists.Wait.{Wait}
use Rattle.sched_types.specs.declared.sched.Task.{Task}
use Rattle.sched_types.specs.Order.{Spot, tasks_of, Before, by_wait}
use Rattle.sched_types.specs.Fits.{Stands}
use Rattle.core_cells.specs.Cells.{IsInside}
use Rattle.core_law.specs.Dependence.{Writes}
use Rattle.core_law.specs.Fit.{IsFit}
use Rattle.core_law.specs.TwoRows.{cell, two_rows}
use Rattle.core_cells.proofs.Places.{none_is_some, some_same}
use Rattle.core_law.proofs.Laid.{task_at}

abbrev task_of : ℕ → Task
task_of zero = record { level = 0; rows = record { 0 = 0 } ∷ []; waits = [] }
task_of (suc k) = record { level = 1; rows = record { 0 = 1 } ∷ []; waits = record { worker = 0; count = 1 } ∷ [] }

-- each worker has its one task
only_task : (k b : ℕ) (t : Task) → slice_get (tasks_of two_rows.workers k) b ≡ Some t → (k < 2) × (b ≡ 0) × (t ≡ task_of k)
only_task zero zero t e = (omega arith, refl, sym (some_same (task_of 0) t e))
only_task zero (suc b) t e = absurd (none_is_some t e)
only_task (suc zero) zero t e = (omega arith, refl, sym (some_same (task_of 1) t e))
only_task (suc zero) (suc b) t e = absurd (none_is_some t e)
only_task (suc (suc k)) b t e = absurd (none_is_some t e)

only_row : (k s : ℕ) (r : RowId) → k < 2 → slice_get (task_of k).rows s ≡ Some r → (s ≡ 0) × (r.0 ≡ k)
only_row zero zero r l e = (refl, ap (λ (z : RowId). z.0) (sym (some_same (record { 0 = 0 }) r e)))
only_row zero (suc s) r l e = absurd (none_is_some r e)
only_row (suc zero) zero r l e = (refl, ap (λ (z : RowId). z.0) (sym (some_same (record { 0 = 1 }) r e)))
only_row (suc zero) (suc s) r l e = absurd (none_is_some r e)
only_row (suc (suc k)) s r l e = absurd (omega arith)

only_wait : (k : ℕ) (wait : Wait) → Contains (task_of k).waits wait → (1 ≤ k) × (wait ≡ record { worker = 0; count = 1 })
only_wait zero wait i = absurd (let l = i.1 in omega arith)
only_wait (suc k) wait i = (omega arith, sym (first i.0 i.1 i.2))
  where
    first : (p : ℕ) → p < 1 → get_or (task_of 1).waits p wait ≡ wait → record { worker = 0; count = 1 } ≡ wait
    first zero l e = e
    first (suc p) l e = absurd (omega arith)

-- where the rows stand
stands : (r : RowId) (t : Spot) (s : ℕ) → Stands two_rows.workers r t s → (r.0 < 2) × (t ≡ task_at r.0 0) × (s ≡ 0)
stands r t s h = let o = only_task t.worker t.at h.0 h.1 in let q = only_row t.worker s r o.0 (subst (λ (z : Task). slice_get z.rows s ≡ Some r) o.2 h.2) in
    let e = q.1 in let l = o.0 in (omega arith, (λ d. task_at (sym e d) (o.1 d)), q.0)

row_stands : (i : ℕ) → i < 2 → Stands two_rows.workers (record { 0 = i }) (task_at i 0) 0
row_stands zero l = (task_of 0, refl, refl)
row_stands (suc zero) l = (task_of 1, refl, refl)
row_stands (suc (suc i)) l = absurd (omega arith)

inside : (g : ℕ) (x : Cell) → g < 3 → Writes two_rows g x → IsInside two_rows.start x
inside zero x l e = subst (IsInside two_rows.start) (some_same (cell 0) x e) (omega arith)
inside (suc zero) x l e = absurd (none_is_some x e)
inside (suc (suc zero)) x l e = subst (IsInside two_rows.start) (some_same (cell 1) x e) (omega arith)
inside (suc (suc (suc g))) x l e = absurd (omega arith)

first_before_second : Before two_rows.workers (task_at 0 0) (task_at 1 0)
first_before_second = by_wait (task_of 1, refl, (0, omega arith, refl))

some_rows : (k : ℕ) → 0 < length (task_of k).rows
some_rows zero = omega arith
some_rows (suc k) = omega arith

pub fits : IsFit two_rows
fits = record {
  inside = inside;
  fits = record {
    rows_alone = λ r t s h. (stands r t s h).0;
    none_empty = λ t q at. let o = only_task t.worker t.at q at in subst (λ (z : Task). 0 < length z.rows) (sym o.2) (some_rows t.worker);
    stands = λ r l. (task_at r.0 0, 0, row_stands r.0 l);
    once = λ r t u at spot a b. let x = stands r t at a in let y = stands r u spot b in (x.1 ∙ sym y.1, x.2 ∙ sym y.2);
    ordered = λ i j dep t u at spot a b. let x = stands i t at a in let y = stands j u spot b in let l = dep.0 in let m = y.0 in
        let z : i.0 ≡ 0 = omega arith in let o : j.0 ≡ 1 = omega arith in
        subst (λ (p : Spot × Spot). Before two_rows.workers p.0 p.1) (λ d. (sym (x.1 ∙ ap (λ (k : ℕ). task_at k 0) z) d, sym (y.1 ∙ ap (λ (k : ℕ). task_at k 0) o) d)) first_before_second;
    waits_stand = λ t q wait at i. let o = only_task t.worker t.at q at in let v = (only_wait t.worker wait (subst (λ (z : Task). Contains z.waits wait) o.2 i)).1 in
        subst (λ (y : Wait). (y.worker < 2) × (1 ≤ y.count) × (y.count ≤ length (tasks_of two_rows.workers y.worker))) (sym v) (omega arith, omega arith, omega arith);
    levels_rise = λ k i j first second l a b. let x = only_task k i first a in let y = only_task k j second b in let e = x.1 in let e' = y.1 in absurd (omega arith);
    waits_rise = λ t q first wait at here i l there. let o = only_task t.worker t.at q here in let v = only_wait t.worker wait (subst (λ (z : Task). Contains z.waits wait) o.2 i) in
        let f = only_task wait.worker at first there in let e = ap (λ (z : Task). z.level) f.2 in let e' = ap (λ (z : Task). z.level) o.2 in
        let u = ap (λ (y : Wait). (task_of y.worker).level) v.1 in let n = upper t.worker v.0 in omega arith;
  };
}
  where
    upper : (k : ℕ) → 1 ≤ k → (task_of k).level ≡ 1
    upper zero l = absurd (omega arith)
    upper (suc k) l = refl
