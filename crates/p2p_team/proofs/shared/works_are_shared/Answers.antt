use denote.Param.Send.{IsSync}
use denote.Param.SendFields.{declared_sync}
use Rattle.core_machine.specs.contracts.work.Work.{the_type}
use Rattle.loop_core.specs.contracts.nest.Nest as Nest
use Rattle.loop_core.specs.contracts.arrays.Arrays as Arrays
use Rattle.loop_core.specs.contracts.values.Values as Values
use Rattle.sched_types.specs.contracts.sched.Sched as Sched
use Rattle.p2p_team.proofs.shared.works_are_shared.Goals as goal

pub returns : goal.returns
returns c =
    let nest : IsSync Nest.the_row = record { shared = c.is_shared.ensures.shared } in
    let arrays : IsSync Arrays.the_row = record { shared = c.is_shared-2.ensures.shared } in
    let values : IsSync Values.the_row = record { shared = c.is_shared-3.ensures.shared } in
    let sched : IsSync Sched.the_row = record { shared = c.is_shared-4.ensures.shared } in
    declared_sync the_type (nest, (arrays, (values, (sched, tt))))
