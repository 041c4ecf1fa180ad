use Rattle.std.proofs.Common.{◌≡◌, ◌++◌, drop}
use Rattle.wait_sparsify.specs.Crossing.{crossing_lists}
use Rattle.wait_sparsify.proofs.crossing.crossing_pairs.Given as goal

abbrev pub invariant-loop-task : goal.invariant-loop-task
invariant-loop-task l =
    l.pairs.items ++ crossing_lists l.preds l.seated.owners.now l.seated.tasks.now l.task (drop l.task l.rows) ≡ crossing_lists l.preds l.seated.owners.now l.seated.tasks.now 0 l.rows
