use Rattle.std.proofs.Common.{◌≡◌, ◌+◌, ◌≤◌, length, map}
use Rattle.csr_arrays.specs.Axes.{turned}
use Rattle.csr_arrays.specs.Arrays.{FirstRows}
use Rattle.csr_arrays.specs.Rows.{by_rows}
use Rattle.csr_arrays.proofs.Turning.{rows_from}
use Rattle.csr_arrays.proofs.rows.compress.Given as goal

abbrev pub invariant-loop-row : goal.invariant-loop-row
invariant-loop-row l =
    record {
      rows : FirstRows l.n l.row (map (turned l.fn.axis) l.entries) l.m.ptr l.m.index l.m.diag l.m.val;
      left : l.rest ≡ rows_from (map (turned l.fn.axis) l.entries) l.n l.row;
      start : l.start ≡ length (by_rows (map (turned l.fn.axis) l.entries) l.row);
      few : length l.m.index + length l.rest ≤ length l.entries;
    }
