use Rattle.std.proofs.Common.{◌≤◌}
use Rattle.wave_levels.specs.Levels.{above}
use Rattle.wave_levels.proofs.plain.first_above.Given as goal

abbrev pub invariant-loop-number : goal.invariant-loop-number
invariant-loop-number l = l.number ≤ above l.numbers
