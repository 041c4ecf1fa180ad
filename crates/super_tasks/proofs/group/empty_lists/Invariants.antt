use Rattle.std.proofs.Common.{◌≡◌, [], replicate}
use Rattle.super_tasks.proofs.group.empty_lists.Given as goal

abbrev pub invariant-loop-worker : goal.invariant-loop-worker
invariant-loop-worker l = l.lists.items ≡ replicate l._worker []
