use Rattle.plan_build.proofs.Planning.{plan_has_fit}
use Rattle.plan_build.proofs.laws.a_plan_fits.Goals as goal

pub returns : goal.returns
returns c = plan_has_fit
