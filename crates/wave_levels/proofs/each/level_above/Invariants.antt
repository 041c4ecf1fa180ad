use Rattle.std.proofs.Common.{◌≡◌, ◌≤◌, drop, length, map, max}
use Rattle.wave_levels.specs.Levels.{above, level_at}
use Rattle.wave_levels.proofs.each.level_above.Given as goal

abbrev pub invariant-loop-row : goal.invariant-loop-row
invariant-loop-row l =
    (max l.level (above (map (level_at l.levels) (drop l.row-index l.rows))) ≡ above (map (level_at l.levels) l.rows)) × (l.level ≤ length l.levels)
