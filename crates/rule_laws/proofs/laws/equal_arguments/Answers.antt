use Rattle.rule_laws.proofs.Soundness.{equal_sound as law}
use Rattle.rule_laws.proofs.laws.equal_arguments.Goals as goal

pub returns : goal.returns
returns c = law
