use Rattle.rule_laws.proofs.Soundness.{diagonal_sound as law}
use Rattle.rule_laws.proofs.laws.diagonal.Goals as goal

pub returns : goal.returns
returns c = law
