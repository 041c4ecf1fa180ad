use Rattle.std.proofs.Common.{◌≡◌, ℕ, ◌+◌, ◌-◌, length}
use Rattle.loop_syntax.specs.Flags.{is_flagged}
use Rattle.loop_syntax.proofs.written.flag.Given as goal

-- numbers past the last flag are not flagged before and after
abbrev pub invariant-loop-flags : goal.invariant-loop-flags
invariant-loop-flags l = (k : ℕ) → is_flagged l.flags.items k ≡ is_flagged l.fn.flags.items k

abbrev pub decreases-loop-flags : goal.decreases-loop-flags
decreases-loop-flags l = l.number-2 + 1 - length l.flags.items
