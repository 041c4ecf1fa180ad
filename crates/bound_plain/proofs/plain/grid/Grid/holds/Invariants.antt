use Rattle.std.proofs.Common.{take}
use Rattle.bound_ways.specs.Exact.{Holds}
use Rattle.bound_table.specs.Rows.{entry}
use Rattle.bound_plain.proofs.plain.grid.Grid.holds.Given as goal

abbrev pub invariant-loop-diff : goal.invariant-loop-diff
invariant-loop-diff l = Holds l.atoms (entry l.self.rows.items) (take l.diff-index l.diffs)
