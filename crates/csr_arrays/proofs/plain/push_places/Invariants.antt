use Rattle.std.proofs.Common.{◌≡◌, ◌++◌, map, pos}
use Rattle.csr_arrays.specs.Arrays.{columns, value_at}
use Rattle.csr_arrays.proofs.plain.push_places.Given as goal

abbrev pub invariant-loop-column : goal.invariant-loop-column
invariant-loop-column l =
    (l.m.index ≡ l.fn.m.index ++ map pos (columns l.column l.entries l.row)) × (l.m.val ≡ l.fn.m.val ++ map (value_at l.entries l.row) (columns l.column l.entries l.row))
    × (l.m.ptr ≡ l.fn.m.ptr) × (l.m.diag ≡ l.fn.m.diag)
