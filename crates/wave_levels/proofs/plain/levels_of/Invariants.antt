use Rattle.std.proofs.Common.{◌≡◌, map, take}
use Rattle.wave_levels.specs.Levels.{level_at}
use Rattle.wave_levels.proofs.plain.levels_of.Given as goal

abbrev pub invariant-loop-row : goal.invariant-loop-row
invariant-loop-row l = l.some.items ≡ map (level_at l.levels) (take l.row-index l.rows)
