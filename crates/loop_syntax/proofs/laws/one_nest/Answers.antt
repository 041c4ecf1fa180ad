use Rattle.loop_syntax.proofs.OneNest.{one_nest}
use Rattle.loop_syntax.proofs.laws.one_nest.Goals as goal

pub returns : goal.returns
returns c = λ ls a b x y. one_nest ls a b x y
