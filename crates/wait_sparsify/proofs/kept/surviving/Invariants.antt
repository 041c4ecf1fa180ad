use Rattle.std.proofs.Common.{◌≡◌, ◌++◌, drop}
use Rattle.wait_sparsify.specs.Survivors.{survivors}
use Rattle.wait_sparsify.proofs.kept.surviving.Given as goal

abbrev pub invariant-loop-at : goal.invariant-loop-at
invariant-loop-at l =
    l.kept.items ++ survivors l.owners l.stamps.earlier.now l.stamps.worker l.stamps.among.now l.stamps.task l.after (drop l.at l.tasks) ≡ survivors l.owners l.stamps.earlier.now l.stamps.worker l.stamps.among.now l.stamps.task l.after l.tasks
