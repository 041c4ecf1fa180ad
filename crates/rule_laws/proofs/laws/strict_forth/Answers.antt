use Rattle.rule_laws.proofs.Soundness.{strict_forth as law}
use Rattle.rule_laws.proofs.laws.strict_forth.Goals as goal

pub returns : goal.returns
returns c = law
