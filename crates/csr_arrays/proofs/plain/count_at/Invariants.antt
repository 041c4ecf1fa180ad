use Rattle.std.proofs.Common.{◌≡◌, ◌≤◌, length, take}
use Rattle.csr_arrays.specs.Arrays.{at_place}
use Rattle.csr_arrays.proofs.plain.count_at.Given as goal

abbrev pub invariant-loop-entry : goal.invariant-loop-entry
invariant-loop-entry l = (l.count ≡ length (at_place (take l.entry-index l.entries) l.row l.column)) × (l.count ≤ l.entry-index)
