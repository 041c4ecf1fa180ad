use Rattle.rule_laws.proofs.Soundness.{upto_sound as law}
use Rattle.rule_laws.proofs.laws.upto.Goals as goal

pub returns : goal.returns
returns c = law
