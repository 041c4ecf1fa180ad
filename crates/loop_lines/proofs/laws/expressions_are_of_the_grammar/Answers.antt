use Rattle.loop_lines.proofs.GrammarLaws.{expr_is}
use Rattle.loop_lines.proofs.laws.expressions_are_of_the_grammar.Goals as goal

pub returns : goal.returns
returns c = λ ts e. expr_is ts e
