use Rattle.core_machine.proofs.laws.some_worker_steps.Goals as goal

pub returns : goal.returns
returns c = λ w d fit reached. c.some_worker_steps.ensures w.nest w.arrays w.values w.sched.workers d fit reached
