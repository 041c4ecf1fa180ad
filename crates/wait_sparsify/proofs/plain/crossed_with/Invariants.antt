use Rattle.wait_sparsify.specs.Searched.{AreSelected, Crosses}
use Rattle.wait_sparsify.proofs.plain.crossed_with.Given as goal

abbrev pub invariant-loop-first : goal.invariant-loop-first
invariant-loop-first l =
    AreSelected (Crosses l.preds l.owners l.rows l.task) l.first l.firsts.items
