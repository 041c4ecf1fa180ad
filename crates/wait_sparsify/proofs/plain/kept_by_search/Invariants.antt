use Rattle.std.proofs.Common.{length}
use Rattle.wait_sparsify.specs.Searched.{IsNeeded}
use Rattle.wait_sparsify.proofs.Searching.{ListsSoFar}
use Rattle.wait_sparsify.proofs.plain.kept_by_search.Given as goal

abbrev pub invariant-loop-task : goal.invariant-loop-task
invariant-loop-task l =
    ListsSoFar (IsNeeded l.cross l.owners) (length l.cross) l.task l.kept
