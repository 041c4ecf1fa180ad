use Rattle.std.proofs.Common.{◌≡◌, map}
use Rattle.std.specs.List.{range_with_len}
use Rattle.wave_levels.specs.Levels.{beside}
use Rattle.wave_levels.proofs.grouped.beside_rows.Given as goal

abbrev pub invariant-loop-at : goal.invariant-loop-at
invariant-loop-at l = l.entries.items ≡ map (beside l.levels) (range_with_len 0 l.at)
