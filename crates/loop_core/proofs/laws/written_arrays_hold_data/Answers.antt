use Rattle.loop_core.proofs.TargetKinds.{target_is_data}
use Rattle.loop_core.proofs.laws.written_arrays_hold_data.Goals as goal

pub returns : goal.returns
returns c = target_is_data
