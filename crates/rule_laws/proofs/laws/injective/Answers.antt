use Rattle.rule_laws.proofs.Soundness.{injective_sound as law}
use Rattle.rule_laws.proofs.laws.injective.Goals as goal

pub returns : goal.returns
returns c = law
