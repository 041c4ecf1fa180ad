use Rattle.std.proofs.Common.{◌≡◌, map}
use Rattle.std.specs.List.{range_with_len}
use Rattle.wave_levels.specs.Levels.{rows_at}
use Rattle.wave_levels.proofs.plain.levels_by_search.Given as goal

abbrev pub invariant-loop-level : goal.invariant-loop-level
invariant-loop-level l = l.rows ≡ map (rows_at l.levels.items) (range_with_len 0 l.level)
