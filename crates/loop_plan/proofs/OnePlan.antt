-- A nest over arrays has one plan for some workers.
use Rattle.std.proofs.Common.{ℕ, ℤ, ◌≡◌, List, []}
use Rattle.wave_base.specs.declared.types.RowId.{RowId}
use Rattle.loop_core.specs.declared.nest.Nest.{Nest}
use Rattle.loop_core.specs.Lists.{Lists}
use Rattle.loop_core.specs.Touches.{Depends}
use Rattle.loop_meaning.specs.Weights.{row_weights}
use Rattle.sched_types.specs.Fits.{Fits}
use Rattle.plan_build.specs.declared.build.Built.{Built}
use Rattle.plan_build.specs.Plan.{Pairs}
use Rattle.plan_build.proofs.Along.{fits_to}
use Rattle.plan_build.proofs.Sets.{plan_of_set}
use Rattle.plan_build.proofs.Unique.{one_plan}
use Rattle.loop_plan.specs.Planned.{IsPlanOf}

pub one_plan_of : (nest : Nest) (a : Lists) (x : List (List ℤ)) (workers : ℕ) (built other : Built) → IsPlanOf nest a x workers built → IsPlanOf nest a x workers other → built ≡ other
one_plan_of nest a x workers built other p q =
    one_plan a.n q.pairs (row_weights a nest) workers built other
    (plan_of_set p.pairs q.pairs (λ i j. (
      λ h. (q.dependent i j).1 ((p.dependent i j).0 h),
      λ h. (p.dependent i j).1 ((q.dependent i j).0 h),
    )) a.n (row_weights a nest) workers built p.plan) q.plan

-- a schedule that fits the pairs of a plan fits the dependences
pub fits_dependences : (nest : Nest) (a : Lists) (x : List (List ℤ)) (workers : ℕ) (built : Built) (p : IsPlanOf nest a x workers built) → Fits a.n (Pairs p.pairs) built.sched.workers
    → Fits a.n (λ (i : RowId) (j : RowId). Depends a nest x i.0 j.0) built.sched.workers
fits_dependences nest a x workers built p fits =
    fits_to (Pairs p.pairs) (λ (i : RowId) (j : RowId). Depends a nest x i.0 j.0)
    (λ i j h. (p.dependent i j).0 h) (λ i j h. (p.dependent i j).1 h) [] a.n built.sched.workers fits
