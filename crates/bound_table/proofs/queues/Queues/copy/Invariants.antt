use Rattle.std.proofs.Common.{◌≡◌, take}
use Rattle.bound_table.proofs.queues.Queues.copy.Given as goal

abbrev pub invariant-loop-row : goal.invariant-loop-row
invariant-loop-row l = l.rows.items ≡ take l.row-index l.self.rows.items
