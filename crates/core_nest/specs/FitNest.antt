-- When a nest, its arrays and a schedule are fit.
use Rattle.std.specs.Prelude.{ℤ, ◌≤◌, List, length}
use Rattle.wave_base.specs.declared.types.RowId.{RowId}
use Rattle.sched_types.specs.declared.sched.Task.{Task}
use Rattle.sched_types.specs.Fits.{Fits}
use Rattle.loop_core.specs.declared.nest.Nest.{Nest}
use Rattle.loop_core.specs.Lists.{Lists}
use Rattle.loop_core.specs.Lengths.{HaveLengths}
use Rattle.loop_core.specs.IsNest.{IsNest}
use Rattle.loop_core.specs.Touches.{IsWithinLists, Depends}

pub record IsFitNest (nest : Nest) (a : Lists) (x : List (List ℤ)) (workers : List (List Task)) : Type 0 where
  pub is_nest : IsNest nest
  pub lengths : HaveLengths nest.decls a x
  pub inside : IsWithinLists nest a x
  pub some_worker : 1 ≤ length workers
  pub few_workers : length workers ≤ 64
  pub fits : Fits a.n (λ (i : RowId) (j : RowId). Depends a nest x i.0 j.0) workers
