use Rattle.core_unroll.proofs.Flags.{FlagsTo}
use Rattle.p2p_exec.proofs.flags.written_arrays.Given as goal

-- the flags so far are right
abbrev pub invariant-loop-array : goal.invariant-loop-array
invariant-loop-array l = FlagsTo l.nest l.flags.items l.array
