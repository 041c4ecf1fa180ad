use Rattle.loop_core.proofs.Formulas.{enough}
use Rattle.loop_core.proofs.laws.values_are_of_words_read.Goals as goal

pub returns : goal.returns
returns c = enough
