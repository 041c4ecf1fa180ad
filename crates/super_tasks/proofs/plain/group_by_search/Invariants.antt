use Rattle.std.proofs.Common.{◌≡◌, map}
use Rattle.std.specs.List.{range_with_len}
use Rattle.super_tasks.specs.Shares.{worker_tasks}
use Rattle.super_tasks.proofs.plain.group_by_search.Given as goal

abbrev pub invariant-loop-worker : goal.invariant-loop-worker
invariant-loop-worker l = l.lists.items ≡ map (worker_tasks l.levels l.weights l.workers) (range_with_len 0 l.worker)
