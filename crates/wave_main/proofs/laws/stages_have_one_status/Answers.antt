use Rattle.wave_main.proofs.StageLaws.{one_by_stages}
use Rattle.wave_main.proofs.laws.stages_have_one_status.Goals as goal

pub returns : goal.returns
returns c = one_by_stages
