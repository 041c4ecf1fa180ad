use Rattle.loop_core.proofs.PlacesSet.{set_is_target}
use Rattle.core_nest.proofs.laws.instances_write_targets.Goals as goal

pub returns : goal.returns
returns c = set_is_target
