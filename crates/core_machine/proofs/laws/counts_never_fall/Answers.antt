use Rattle.core_machine.specs.FitWork.{plain}
use Rattle.core_machine.proofs.laws.counts_never_fall.Goals as goal

pub returns : goal.returns
returns c = λ w d. c.counts_never_fall.ensures (plain w) d
