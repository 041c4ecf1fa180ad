use Rattle.rule_laws.proofs.Soundness.{sorted_forth as law}
use Rattle.rule_laws.proofs.laws.sorted_forth.Goals as goal

pub returns : goal.returns
returns c = law
