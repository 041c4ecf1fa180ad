use Rattle.loop_meaning.specs.Weights.{row_weights}
use Rattle.loop_plan.proofs.OnePlan.{fits_dependences}
use Rattle.loop_plan.proofs.Weighing.{are_weights}
use Rattle.loop_plan.proofs.laws.plans_fit_the_dependences.Goals as goal

pub returns : goal.returns
returns c nest a x workers built some p =
    fits_dependences nest a x workers built p (c.a_plan_fits.ensures a.n p.pairs (row_weights a nest) workers built (are_weights nest a) some p.plan)
