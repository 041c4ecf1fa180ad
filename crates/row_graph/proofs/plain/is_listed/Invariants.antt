use Rattle.std.proofs.Common.{◌≡◌, ◌<◌, ℕ, get_or}
use Rattle.row_graph.specs.Rows.{row_zero}
use Rattle.row_graph.proofs.plain.is_listed.Given as goal

abbrev pub invariant-loop-other : goal.invariant-loop-other
invariant-loop-other l = (k : ℕ) → k < l.other-index → (get_or l.rows k row_zero).0 ≡ l.row.0 → ⊥
