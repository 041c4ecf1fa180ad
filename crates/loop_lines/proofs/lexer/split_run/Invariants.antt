use Rattle.text_base.proofs.Fronts.{Cuts}
use Rattle.loop_lines.specs.TokenReading.{front_run, after_run}
use Rattle.loop_lines.proofs.lexer.split_run.Given as goal

abbrev pub invariant-loop-at : goal.invariant-loop-at
invariant-loop-at l = Cuts front_run after_run l.line l.at
