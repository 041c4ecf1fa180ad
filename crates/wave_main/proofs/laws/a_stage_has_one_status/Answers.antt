use Rattle.wave_main.proofs.StageLaws.{one_call}
use Rattle.wave_main.proofs.laws.a_stage_has_one_status.Goals as goal

pub returns : goal.returns
returns c = one_call
