use Rattle.std.proofs.Common.{◌<◌, ℕ, get_or}
use Rattle.wave_levels.proofs.plain.is_above.Given as goal

abbrev pub invariant-loop-other : goal.invariant-loop-other
invariant-loop-other l = (k : ℕ) → k < l.other-index → get_or l.numbers k 0 < l.number
