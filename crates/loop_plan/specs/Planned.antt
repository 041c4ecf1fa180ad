-- The plan of a nest over arrays.
use Rattle.std.specs.Prelude.{◌↔◌, ℕ, ℤ, List, Contains}
use Rattle.wave_base.specs.declared.types.RowId.{RowId}
use Rattle.loop_core.specs.declared.nest.Nest.{Nest}
use Rattle.loop_core.specs.Lists.{Lists}
use Rattle.loop_core.specs.Touches.{Depends}
use Rattle.loop_meaning.specs.Weights.{row_weights}
use Rattle.plan_build.specs.declared.build.Built.{Built}
use Rattle.plan_build.specs.Plan.{IsPlan}

-- the plan of the nest's dependent rows for some workers, by the weights of its rows: some list has just these rows
-- as its pairs, and the plan is that of the list
pub record IsPlanOf (nest : Nest) (a : Lists) (x : List (List ℤ)) (workers : ℕ) (built : Built) : Type 0 where
  pub pairs : List (RowId × RowId)
  pub dependent : (i j : RowId) → Contains pairs (i, j) ↔ Depends a nest x i.0 j.0
  pub plan : IsPlan a.n pairs (row_weights a nest) workers built
