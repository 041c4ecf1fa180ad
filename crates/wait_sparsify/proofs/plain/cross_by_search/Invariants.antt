use Rattle.std.proofs.Common.{length}
use Rattle.wait_sparsify.specs.Searched.{Crosses}
use Rattle.wait_sparsify.proofs.Searching.{ListsSoFar}
use Rattle.wait_sparsify.proofs.plain.cross_by_search.Given as goal

abbrev pub invariant-loop-task : goal.invariant-loop-task
invariant-loop-task l =
    ListsSoFar (Crosses l.preds l.owners l.rows) (length l.rows) l.task l.cross
