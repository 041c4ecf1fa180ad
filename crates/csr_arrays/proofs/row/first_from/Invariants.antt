use Rattle.std.proofs.Common.{ℕ, pos, ◌<◌, ◌<ℤ◌, get_or}
use Rattle.csr_arrays.proofs.row.first_from.Given as goal

abbrev pub invariant-loop-at : goal.invariant-loop-at
invariant-loop-at l = (k : ℕ) → k < l.at → get_or l.columns k (pos 0) <ℤ pos l.row
