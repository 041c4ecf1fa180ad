use Rattle.wait_sparsify.specs.Searched.{AreSelected, IsNeeded}
use Rattle.wait_sparsify.proofs.plain.needed_by.Given as goal

abbrev pub invariant-loop-first : goal.invariant-loop-first
invariant-loop-first l =
    AreSelected (IsNeeded l.cross l.owners l.task) l.first l.firsts.items
