use Rattle.std.proofs.Common.{◌≡◌, [], replicate}
use Rattle.bound_table.proofs.queues.QueueRow.new.Given as goal

abbrev pub invariant-loop : goal.invariant-loop
invariant-loop l = l.queues.items ≡ replicate l.counter []
