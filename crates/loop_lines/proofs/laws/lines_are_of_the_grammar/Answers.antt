use Rattle.loop_lines.proofs.GrammarLaws.{line_is}
use Rattle.loop_lines.proofs.laws.lines_are_of_the_grammar.Goals as goal

pub returns : goal.returns
returns c = λ ts l. line_is ts l
