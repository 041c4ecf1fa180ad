use Rattle.loop_lines.proofs.GrammarLaws.{one_meaning}
use Rattle.loop_lines.proofs.laws.lines_have_one_meaning.Goals as goal

pub returns : goal.returns
returns c = λ ts l m p q. one_meaning ts l m p q
