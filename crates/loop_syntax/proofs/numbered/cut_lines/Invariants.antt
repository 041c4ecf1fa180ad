use Rattle.std.proofs.Common.{length}
use Rattle.loop_syntax.proofs.CutLaws.{Progress}
use Rattle.loop_syntax.proofs.numbered.cut_lines.Given as goal

abbrev pub invariant-loop-rest : goal.invariant-loop-rest
invariant-loop-rest l = Progress l.bytes l.kept l.place l.number l.rest

abbrev pub decreases-loop-rest : goal.decreases-loop-rest
decreases-loop-rest l = length l.rest
