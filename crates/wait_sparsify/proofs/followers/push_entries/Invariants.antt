use Rattle.std.proofs.Common.{◌≡◌, ◌++◌, map, take}
use Rattle.wait_sparsify.proofs.followers.push_entries.Given as goal

abbrev pub invariant-loop-task : goal.invariant-loop-task
invariant-loop-task l = l.into.items ≡ l.initial.into.items ++ map (λ r. (r.0, l.number)) (take l.task-index l.tasks)
