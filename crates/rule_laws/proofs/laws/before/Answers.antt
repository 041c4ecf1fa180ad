use Rattle.rule_laws.proofs.Soundness.{before_sound as law}
use Rattle.rule_laws.proofs.laws.before.Goals as goal

pub returns : goal.returns
returns c = law
