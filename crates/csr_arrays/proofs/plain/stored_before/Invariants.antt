use Rattle.std.proofs.Common.{◌≡◌, ◌≤◌, length}
use Rattle.csr_arrays.specs.Arrays.{columns}
use Rattle.csr_arrays.proofs.plain.stored_before.Given as goal

abbrev pub invariant-loop-column : goal.invariant-loop-column
invariant-loop-column l = (l.stored ≡ length (columns l.column l.entries l.row)) × (l.stored ≤ l.column)
