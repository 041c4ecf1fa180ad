use Rattle.std.proofs.Common.{◌≡◌, ◌+◌, ◌≤◌, length, drop, None}
use Rattle.csr_arrays.specs.Rows.{run}
use Rattle.csr_arrays.proofs.row.put_ascending.Given as goal

abbrev pub invariant-loop-column : goal.invariant-loop-column
invariant-loop-column l =
    (run (drop l.column-index l.cells) l.index l.val l.last ≡ run l.cells l.fn.index l.fn.val None) × (length l.index ≤ length l.fn.index + l.column-index) × (length l.fn.index ≤ length l.index)
