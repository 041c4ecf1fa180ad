use Rattle.core_machine.specs.FitWork.{plain}
use Rattle.core_machine.proofs.laws.registers_are_as_in_the_loop.Goals as goal

pub returns : goal.returns
returns c = λ w d k fit reached. c.registers_are_sequential.ensures (plain w) d k (c.nests_are_fit.ensures w.nest w.arrays w.values w.sched.workers fit) reached
