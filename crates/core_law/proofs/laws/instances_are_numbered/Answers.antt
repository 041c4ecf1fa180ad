use Rattle.core_law.proofs.Numbers.{numbered}
use Rattle.core_law.proofs.laws.instances_are_numbered.Goals as goal

pub returns : goal.returns
returns c = numbered
