use Rattle.std.proofs.Common.{◌≡◌, ◌≤◌, drop, max}
use Rattle.wave_levels.specs.Levels.{above}
use Rattle.wave_levels.proofs.grouped.count_of.Given as goal

abbrev pub invariant-loop-level : goal.invariant-loop-level
invariant-loop-level l = (max l.count (above (drop l.level-index l.levels)) ≡ above l.levels) × (l.count ≤ l.level-index)
