use Rattle.rule_laws.proofs.Soundness.{range_sound as law}
use Rattle.rule_laws.proofs.laws.range.Goals as goal

pub returns : goal.returns
returns c = law
