use Rattle.core_law.proofs.Laying.{laid}
use Rattle.core_law.proofs.Reached.{holds}
use Rattle.core_law.proofs.Facts as facts
use Rattle.core_law.proofs.laws.finished_tasks_are_passed.Goals as goal

pub returns : goal.returns
returns c = λ w e fit reached. facts.finished_passed w fit (laid w fit) e (holds w fit e reached)
