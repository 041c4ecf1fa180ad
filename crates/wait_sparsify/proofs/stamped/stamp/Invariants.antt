use Rattle.std.proofs.Common.{◌≡◌, drop, vec_len}
use Rattle.wait_sparsify.specs.Written.{written}
use Rattle.wait_sparsify.proofs.stamped.stamp.Given as goal

abbrev pub invariant-loop-row : goal.invariant-loop-row
invariant-loop-row l =
    (written l.value (drop l.row-index l.rows) l.numbers.items ≡ written l.value l.rows l.initial.numbers.items) × (vec_len l.numbers ≡ vec_len l.initial.numbers)
