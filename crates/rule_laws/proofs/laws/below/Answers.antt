use Rattle.rule_laws.proofs.Soundness.{below_sound as law}
use Rattle.rule_laws.proofs.laws.below.Goals as goal

pub returns : goal.returns
returns c = law
