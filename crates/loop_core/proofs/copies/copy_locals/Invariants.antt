use Rattle.std.proofs.Common.{◌≡◌, take}
use Rattle.loop_core.proofs.copies.copy_locals.Given as goal

abbrev pub invariant-loop-local : goal.invariant-loop-local
invariant-loop-local l = l.copy ≡ take l.local-index l.locals
