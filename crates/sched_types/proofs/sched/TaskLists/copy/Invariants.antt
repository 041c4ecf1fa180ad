use Rattle.std.proofs.Common.{◌≡◌, take}
use Rattle.sched_types.proofs.sched.TaskLists.copy.Given as goal

abbrev pub invariant-loop-list : goal.invariant-loop-list
invariant-loop-list l = l.items.items ≡ take l.list-index l.list-items
