use Rattle.std.proofs.Common.{◌≡◌, [], replicate}
use Rattle.bound_table.proofs.queues.Queues.new.Given as goal

abbrev pub invariant-loop : goal.invariant-loop
invariant-loop l = l.rows.items ≡ replicate l.counter (replicate l.size [])
