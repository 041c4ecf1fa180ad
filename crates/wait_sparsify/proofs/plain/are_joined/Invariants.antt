use Rattle.std.proofs.Common.{◌<◌, ℕ, get_or}
use Rattle.row_graph.specs.Predecessors.{before}
use Rattle.row_graph.specs.Rows.{row_zero}
use Rattle.wait_sparsify.specs.Searched.{SomeBefore}
use Rattle.wait_sparsify.proofs.plain.are_joined.Given as goal

abbrev pub invariant-loop-row : goal.invariant-loop-row
invariant-loop-row l =
    (k : ℕ) → k < l.row-index → SomeBefore (before l.preds (get_or l.seconds k row_zero).0) l.firsts → ⊥
