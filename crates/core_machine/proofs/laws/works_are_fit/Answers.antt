use Rattle.core_machine.proofs.laws.works_are_fit.Goals as goal

pub returns : goal.returns
returns c = λ w fit. c.nests_are_fit.ensures w.nest w.arrays w.values w.sched.workers fit
