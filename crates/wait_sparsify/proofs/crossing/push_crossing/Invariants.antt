use Rattle.std.proofs.Common.{◌≡◌, ◌++◌, drop}
use Rattle.wait_sparsify.specs.Crossing.{crossing}
use Rattle.wait_sparsify.proofs.crossing.push_crossing.Given as goal

abbrev pub invariant-loop-row : goal.invariant-loop-row
invariant-loop-row l =
    l.into.items ++ crossing l.seated.owners.now l.seated.tasks.now l.task (drop l.row-index l.before) ≡ l.initial.into.items ++ crossing l.seated.owners.now l.seated.tasks.now l.task l.before
