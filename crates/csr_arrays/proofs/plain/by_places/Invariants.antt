use Rattle.csr_arrays.specs.Arrays.{FirstRows}
use Rattle.csr_arrays.proofs.plain.by_places.Given as goal

abbrev pub invariant-loop-row : goal.invariant-loop-row
invariant-loop-row l = FirstRows l.n l.row l.entries l.m.ptr l.m.index l.m.diag l.m.val
