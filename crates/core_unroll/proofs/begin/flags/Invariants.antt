use Rattle.core_unroll.proofs.Flags.{FlagsTo}
use Rattle.core_unroll.proofs.begin.flags.Given as goal

abbrev pub invariant-loop-array : goal.invariant-loop-array
invariant-loop-array l = FlagsTo l.nest l.flags.items l.array
