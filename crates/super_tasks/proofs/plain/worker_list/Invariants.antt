use Rattle.std.proofs.Common.{◌≡◌}
use Rattle.std.specs.List.{flat_map, range_with_len}
use Rattle.super_tasks.specs.Shares.{task_at}
use Rattle.super_tasks.proofs.plain.worker_list.Given as goal

abbrev pub invariant-loop-level : goal.invariant-loop-level
invariant-loop-level l = l.list ≡ flat_map (task_at l.levels l.weights l.workers l.worker) (range_with_len 0 l.level)
