use Rattle.rule_laws.proofs.Soundness.{rising_back as law}
use Rattle.rule_laws.proofs.laws.rising_back.Goals as goal

pub returns : goal.returns
returns c = law
