use Rattle.std.proofs.Common.{◌≡◌, ◌++◌, drop}
use Rattle.inspector_gen.proofs.turn.copy_order.Given as goal

-- the copy so far, and what is left
abbrev pub invariant-loop-u : goal.invariant-loop-u
invariant-loop-u l = l.copy ++ drop l.u-index l.order ≡ l.order
