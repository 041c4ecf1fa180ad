use Rattle.std.proofs.Common.{◌≡◌, take}
use Rattle.csr_arrays.specs.Arrays.{value_at}
use Rattle.csr_arrays.proofs.plain.sum_at.Given as goal

abbrev pub invariant-loop-entry : goal.invariant-loop-entry
invariant-loop-entry l = l.sum ≡ value_at (take l.entry-index l.entries) l.row l.column
