use Rattle.std.proofs.Common.{◌≡◌, drop}
use Rattle.wait_sparsify.specs.Survivors.{is_stamped}
use Rattle.wait_sparsify.proofs.stamped.is_stamped.Given as goal

abbrev pub invariant-loop-row : goal.invariant-loop-row
invariant-loop-row l = is_stamped l.numbers l.value (drop l.row-index l.rows) ≡ is_stamped l.numbers l.value l.rows
