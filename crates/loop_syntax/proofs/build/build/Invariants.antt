use Rattle.std.proofs.Common.{drop}
use Rattle.loop_syntax.proofs.BuildLaws.{Built}
use Rattle.loop_syntax.proofs.build.build.Given as goal

abbrev pub invariant-loop-next : goal.invariant-loop-next
invariant-loop-next l = Built l.lines l.scope l.so_far (drop l.next-index l.lines)
