use Rattle.std.proofs.Common.{◌≡◌, ◌++◌, drop}
use Rattle.wait_sparsify.specs.Numbered.{rows_from}
use Rattle.wait_sparsify.proofs.numbered.rows_of_each.Given as goal

abbrev pub invariant-loop-worker : goal.invariant-loop-worker
invariant-loop-worker l =
    l.rows ++ rows_from (drop l.worker l.lists) ≡ rows_from l.lists
