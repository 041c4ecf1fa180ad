use Rattle.loop_core.proofs.Found.{registers_give}
use Rattle.loop_core.proofs.laws.registers_give_values.Goals as goal

pub returns : goal.returns
returns c = registers_give
