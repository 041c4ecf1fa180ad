use Rattle.loop_plan.proofs.OnePlan.{one_plan_of}
use Rattle.loop_plan.proofs.laws.a_nest_has_one_plan.Goals as goal

pub returns : goal.returns
returns c = one_plan_of
