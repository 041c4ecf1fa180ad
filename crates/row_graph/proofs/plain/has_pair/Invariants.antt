use Rattle.std.proofs.Common.{◌≡◌, ◌<◌, ℕ, get_or}
use Rattle.row_graph.specs.Rows.{row_zero}
use Rattle.row_graph.proofs.plain.has_pair.Given as goal

abbrev pub invariant-loop-pair : goal.invariant-loop-pair
invariant-loop-pair l =
    (k : ℕ) → k < l.pair-index → (get_or l.pairs k (row_zero, row_zero)).0.0 ≡ l.first.0 → (get_or l.pairs k (row_zero, row_zero)).1.0 ≡ l.second.0 → ⊥
