use Rattle.std.proofs.Common.{◌≤◌}
use Rattle.loop_syntax.proofs.numbered.room.Given as goal

abbrev pub invariant-loop-byte : goal.invariant-loop-byte
invariant-loop-byte l = l.count ≤ l.most
