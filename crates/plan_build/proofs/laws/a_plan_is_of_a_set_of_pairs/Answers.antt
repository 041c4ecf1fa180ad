use Rattle.plan_build.proofs.Sets.{plan_of_set}
use Rattle.plan_build.proofs.laws.a_plan_is_of_a_set_of_pairs.Goals as goal

pub returns : goal.returns
returns c n pairs others weights workers built same p = plan_of_set pairs others same n weights workers built p
