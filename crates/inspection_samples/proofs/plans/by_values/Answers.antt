use Rattle.std.proofs.Common.{sym, subst}
use Rattle.std.specs.List.{All}
use Rattle.inspector_run.specs.Ready.{SearchesAscending}
use Rattle.inspector_run.specs.IsPlan.{IsPlan}
use Rattle.inspection_samples.proofs.ArePlans.{values_plan, values_ascend}
use Rattle.inspection_samples.proofs.plans.by_values.Goals as goal

pub returns-clause-plan : goal.returns-clause-plan
returns-clause-plan c = subst IsPlan (sym (c.in_ok-ops.ensures {u = tt})) values_plan

pub returns-clause-ascending : goal.returns-clause-ascending
returns-clause-ascending c a = subst (All (SearchesAscending a)) (sym (c.in_ok-ops.ensures {u = tt})) (values_ascend a)
