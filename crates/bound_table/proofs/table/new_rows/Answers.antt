use Rattle.std.proofs.Common.{arith}
use Rattle.bound_table.proofs.Improve.{IsTable-unit}
use Rattle.bound_table.proofs.table.new_rows.Goals as goal

pub returns-clause-table : goal.returns-clause-table
returns-clause-table c = IsTable-unit c.loop-at.rows.items c.args.size c.requires (omega arith) (λ x l. c.loop-at.invariant.wide x (omega arith)) (λ x y lx ly. c.loop-at.invariant.each x y (omega arith) ly)
