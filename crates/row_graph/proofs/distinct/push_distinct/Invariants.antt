use Rattle.std.proofs.Common.{◌≡◌, ◌++◌, drop}
use Rattle.row_graph.specs.Distinct.{distinct}
use Rattle.row_graph.proofs.distinct.push_distinct.Given as goal

abbrev pub invariant-loop-at : goal.invariant-loop-at
invariant-loop-at l = l.into.items ++ distinct (drop l.at l.rows) ≡ l.initial.into.items ++ distinct l.rows
