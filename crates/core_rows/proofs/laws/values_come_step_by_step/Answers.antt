use Rattle.core_rows.proofs.Steps.{steps}
use Rattle.core_rows.proofs.laws.values_come_step_by_step.Goals as goal

pub returns : goal.returns
returns c = steps
