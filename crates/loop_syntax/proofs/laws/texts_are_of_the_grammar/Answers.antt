use Rattle.loop_syntax.proofs.TextLaws.{nest_is, why_is, answer_is}
use Rattle.loop_syntax.proofs.laws.texts_are_of_the_grammar.Goals as goal

pub returns : goal.returns
returns c = record { nests = λ ls nest. nest_is ls nest; refusals = λ ls why. why_is ls why; answers = λ ls answer. answer_is ls answer }
