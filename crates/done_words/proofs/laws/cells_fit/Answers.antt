use Rattle.done_words.proofs.Fitting.{cells_fit}
use Rattle.done_words.proofs.laws.cells_fit.Goals as goal

pub returns : goal.returns
returns c = cells_fit
