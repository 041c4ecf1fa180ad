use Rattle.loop_laws.proofs.ShownNest.{nest_text_is_shown}
use Rattle.loop_laws.proofs.laws.printed_text_is_that_of_its_lines.Goals as goal

pub returns : goal.returns
returns c = λ ls nest h. nest_text_is_shown ls nest h
