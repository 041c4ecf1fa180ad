use Rattle.loop_core.proofs.Formulas.{operation}
use Rattle.loop_core.proofs.laws.operations_are_of_sides.Goals as goal

pub returns : goal.returns
returns c = operation
