use Rattle.core_machine.proofs.laws.ends_are_as_in_the_loop.Goals as goal

pub returns : goal.returns
returns c = λ w d fit reached. c.ends_are_as_in_the_loop.ensures w.nest w.arrays w.values w.sched.workers d fit reached
