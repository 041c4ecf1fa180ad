use Rattle.core_machine.proofs.laws.dependences_are_ordered.Goals as goal

pub returns : goal.returns
returns c = λ w d fit reached. c.dependences_are_ordered.ensures w.nest w.arrays w.values w.sched.workers d fit reached
