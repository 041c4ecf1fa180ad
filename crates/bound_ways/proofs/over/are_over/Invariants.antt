use Rattle.std.proofs.Common.{take}
use Rattle.bound_ways.specs.Over.{AreOver}
use Rattle.bound_ways.proofs.over.are_over.Given as goal

abbrev pub invariant-loop-diff : goal.invariant-loop-diff
invariant-loop-diff l = AreOver l.atoms (take l.diff-index l.diffs)
