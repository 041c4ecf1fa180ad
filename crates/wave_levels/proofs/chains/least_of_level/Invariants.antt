use Rattle.std.proofs.Common.{◌≡◌, ◌<◌, ℕ, get_or}
use Rattle.row_graph.specs.Rows.{row_zero}
use Rattle.wave_levels.specs.Levels.{level_at}
use Rattle.wave_levels.proofs.chains.least_of_level.Given as goal

abbrev pub invariant-loop-row : goal.invariant-loop-row
invariant-loop-row l = (k : ℕ) → k < l.row-index → level_at l.levels (get_or l.rows k row_zero) ≡ l.level → ⊥
