use Rattle.std.proofs.Common.{◌≡◌, ◌++◌, drop}
use Rattle.wait_sparsify.specs.Crossing.{crossing_rows}
use Rattle.wait_sparsify.proofs.crossing.push_crossing_rows.Given as goal

abbrev pub invariant-loop-row : goal.invariant-loop-row
invariant-loop-row l =
    l.into.items ++ crossing_rows l.preds l.seated.owners.now l.seated.tasks.now l.task (drop l.row-index l.rows) ≡ l.initial.into.items ++ crossing_rows l.preds l.seated.owners.now l.seated.tasks.now l.task l.rows
