-- When a work is fit, and the machine that it is.
use Rattle.std.specs.Prelude.{◌<◌, ℕ, length}
use Rattle.core_law.specs.Works as law
use Rattle.core_nest.specs.FitNest.{IsFitNest}
use Rattle.core_nest.specs.NestLaws.{plain_work}
use Rattle.core_machine.specs.declared.work.Work.{Work}

-- the nest is one that the loop language can say, its lists have the declared lengths, every access of every instance is
-- inside its list, and the schedule has 1 to 64 workers and fits the dependences of the rows
abbrev pub IsFitWork : Work → Type 0
IsFitWork w = IsFitNest w.nest w.arrays w.values w.sched.workers

-- its rows of instances, its schedule and its words
abbrev pub plain : Work → law.Work
plain w = plain_work w.nest w.arrays w.values w.sched.workers

-- the number is that of a worker
abbrev pub IsWorker : Work → ℕ → Type 0
IsWorker w k = k < length w.sched.workers
