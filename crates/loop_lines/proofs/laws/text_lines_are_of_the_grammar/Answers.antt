use Rattle.loop_lines.proofs.GrammarLaws.{text_is}
use Rattle.loop_lines.proofs.laws.text_lines_are_of_the_grammar.Goals as goal

pub returns : goal.returns
returns c = λ line said. text_is line said
