use Rattle.rule_laws.proofs.Soundness.{rising_forth as law}
use Rattle.rule_laws.proofs.laws.rising_forth.Goals as goal

pub returns : goal.returns
returns c = law
