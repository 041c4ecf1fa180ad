use Rattle.std.proofs.Common.{◌≡◌}
use Rattle.wave_levels.proofs.Searching.{rows_so_far}
use Rattle.wave_levels.proofs.plain.rows_of.Given as goal

abbrev pub invariant-loop-at : goal.invariant-loop-at
invariant-loop-at l = l.rows.items ≡ rows_so_far l.levels l.level l.at
