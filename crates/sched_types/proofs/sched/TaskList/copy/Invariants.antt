use Rattle.std.proofs.Common.{◌≡◌, take}
use Rattle.sched_types.proofs.sched.TaskList.copy.Given as goal

abbrev pub invariant-loop-task : goal.invariant-loop-task
invariant-loop-task l = l.items.items ≡ take l.task-index l.task-items
