use Rattle.rule_laws.proofs.Soundness.{strict_back as law}
use Rattle.rule_laws.proofs.laws.strict_back.Goals as goal

pub returns : goal.returns
returns c = law
