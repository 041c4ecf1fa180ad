-- Works, and when one is sound.
use Rattle.std.specs.Prelude.{ℕ, ◌≤◌}
use Rattle.loop_core.specs.IsNest.{IsNest}
use Rattle.loop_core.specs.Lengths.{HaveLengths}
use Rattle.index_props.specs.Meanings.{Passes}
use Rattle.access_bounds.specs.Accepted.{IsAccepted}
use Rattle.core_machine.specs.declared.work.Work as core
use Rattle.plan_build.specs.declared.build.Built.{Built}
use Rattle.loop_plan.specs.Planned.{IsPlanOf}
use Rattle.wave_main.specs.declared.input.Input.{Input}

-- a work: a loop with its arrays, and its plan for a number of workers
pub record Work : Type 0 where
  pub input : Input
  pub workers : ℕ
  pub plan : Built

-- the nest is accepted, its lists have the declared lengths, its index arrays pass its properties, and the plan is that
-- of its dependent rows for 1 to 64 workers
pub record IsSound (work : Work) : Type 0 where
  pub is_nest : IsNest work.input.nest
  pub accepted : IsAccepted work.input.nest
  pub lengths : HaveLengths work.input.nest.decls work.input.arrays work.input.values
  pub passes : Passes work.input.nest.props work.input.arrays
  pub some : 1 ≤ work.workers
  pub few : work.workers ≤ 64
  pub plan : IsPlanOf work.input.nest work.input.arrays work.input.values work.workers work.plan

-- what its workers run: the loop with its arrays, and the schedule of its plan
abbrev pub core_work : Work → core.Work
core_work work = record { nest = work.input.nest; arrays = work.input.arrays; values = work.input.values; sched = work.plan.sched }
