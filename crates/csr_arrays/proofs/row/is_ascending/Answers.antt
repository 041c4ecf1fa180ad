use Rattle.std.proofs.Common.{arith}
use Rattle.std.proofs.lemmas.List.Sorted.{IsNonDecreasingBy-from_all_adjacent}
use Rattle.csr_arrays.specs.Rows.{Cell}
use Rattle.csr_arrays.proofs.row.is_ascending.Goals as goal

pub returns : goal.returns
returns c =
    λ _. IsNonDecreasingBy-from_all_adjacent (λ (e : Cell). e.0) c.args.cells.now (λ k d lt. c.loop-column.invariant.0 k d (omega (arith, lt)))
