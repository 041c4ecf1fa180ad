use Rattle.super_tasks.proofs.Grouping.{Grouping}
use Rattle.super_tasks.proofs.group.group.Given as goal

abbrev pub invariant-loop-level : goal.invariant-loop-level
invariant-loop-level l = Grouping l.levels l.weights l.workers l.level l.lists.items
