use Rattle.core_value.proofs.Takings.{instance_takes}
use Rattle.core_value.proofs.laws.instances_have_values.Goals as goal

pub returns : goal.returns
returns c = instance_takes
