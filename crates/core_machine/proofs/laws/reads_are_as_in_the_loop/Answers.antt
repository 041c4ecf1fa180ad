use Rattle.core_machine.proofs.laws.reads_are_as_in_the_loop.Goals as goal

pub returns : goal.returns
returns c = λ w d fit reached. c.reads_are_as_in_the_loop.ensures w.nest w.arrays w.values w.sched.workers d fit reached
