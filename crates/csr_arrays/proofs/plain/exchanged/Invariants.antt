use Rattle.std.proofs.Common.{◌≡◌, map, take}
use Rattle.csr_arrays.specs.Axes.{flipped}
use Rattle.csr_arrays.proofs.plain.exchanged.Given as goal

abbrev pub invariant-loop-row : goal.invariant-loop-row
invariant-loop-row l = l.flipped.items ≡ map flipped (take l.row-index l.entries)
