use Rattle.std.proofs.Common.{◌<◌, ℕ, Contains, get_or}
use Rattle.row_graph.specs.Rows.{row_zero}
use Rattle.wait_sparsify.proofs.plain.some_before.Given as goal

abbrev pub invariant-loop-row : goal.invariant-loop-row
invariant-loop-row l =
    (k : ℕ) → k < l.row-index → Contains l.before (get_or l.rows k row_zero) → ⊥
