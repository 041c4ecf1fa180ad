use Rattle.core_machine.specs.FitWork.{plain}
use Rattle.core_machine.proofs.laws.counts_are_finished_tasks.Goals as goal

pub returns : goal.returns
returns c = λ w d fit reached. c.counts_are_finished_tasks.ensures (plain w) d (c.nests_are_fit.ensures w.nest w.arrays w.values w.sched.workers fit) reached
