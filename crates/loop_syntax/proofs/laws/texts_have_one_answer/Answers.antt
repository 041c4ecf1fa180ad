use Rattle.loop_syntax.proofs.TextLaws.{one_nest_of, one_reason, not_both}
use Rattle.loop_syntax.proofs.laws.texts_have_one_answer.Goals as goal

pub returns : goal.returns
returns c = record { nest = λ ls a b h k. one_nest_of ls a b h k; reason = λ ls a b h k. one_reason ls a b h k; either = λ ls nest why h k. not_both ls nest why h k }
