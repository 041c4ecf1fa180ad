use Rattle.rule_laws.proofs.Soundness.{sorted_back as law}
use Rattle.rule_laws.proofs.laws.sorted_back.Goals as goal

pub returns : goal.returns
returns c = law
