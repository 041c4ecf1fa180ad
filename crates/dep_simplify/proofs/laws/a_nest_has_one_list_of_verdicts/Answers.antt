use Rattle.dep_simplify.proofs.Unique.{one_list}
use Rattle.dep_simplify.proofs.laws.a_nest_has_one_list_of_verdicts.Goals as goal

pub returns : goal.returns
returns c = one_list
