use Rattle.plan_build.proofs.Unique.{one_plan}
use Rattle.plan_build.proofs.laws.rows_have_one_plan.Goals as goal

pub returns : goal.returns
returns c = one_plan
