use Rattle.rule_laws.proofs.Soundness.{strict_back_strict as law}
use Rattle.rule_laws.proofs.laws.strict_back_strict.Goals as goal

pub returns : goal.returns
returns c = law
