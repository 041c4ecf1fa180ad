use Rattle.inspector_run.proofs.Emitting.{plan_earlier}
use Rattle.inspector_run.proofs.laws.plans_emit_earlier_rows.Goals as goal

pub returns : goal.returns
returns c = plan_earlier
