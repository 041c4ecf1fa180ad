use Rattle.core_machine.proofs.laws.writes_are_a_beginning_of_the_loop.Goals as goal

pub returns : goal.returns
returns c = λ w d cell fit reached. c.writes_are_a_beginning_of_the_loop.ensures w.nest w.arrays w.values w.sched.workers d cell fit reached
