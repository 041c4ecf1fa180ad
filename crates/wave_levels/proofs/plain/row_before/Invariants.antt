use Rattle.std.proofs.Common.{◌≡◌, ◌<◌, ℕ, Contains}
use Rattle.row_graph.specs.Predecessors.{before}
use Rattle.row_graph.specs.Rows.{row}
use Rattle.wave_levels.specs.Levels.{level_at}
use Rattle.wave_levels.proofs.plain.row_before.Given as goal

abbrev pub invariant-loop-row : goal.invariant-loop-row
invariant-loop-row l =
    (k : ℕ) → k < l.row → Contains (before l.preds l.next.0) (row k) × (level_at l.levels (row k) ≡ l.level) → ⊥
