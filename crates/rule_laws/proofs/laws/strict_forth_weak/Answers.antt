use Rattle.rule_laws.proofs.Soundness.{strict_forth_weak as law}
use Rattle.rule_laws.proofs.laws.strict_forth_weak.Goals as goal

pub returns : goal.returns
returns c = law
