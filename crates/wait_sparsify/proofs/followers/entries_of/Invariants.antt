use Rattle.std.proofs.Common.{◌≡◌, ◌++◌, drop}
use Rattle.row_graph.specs.Turned.{turned}
use Rattle.wait_sparsify.proofs.followers.entries_of.Given as goal

abbrev pub invariant-loop-at : goal.invariant-loop-at
invariant-loop-at l = l.entries.items ++ turned l.at (drop l.at l.cross) ≡ turned 0 l.cross
