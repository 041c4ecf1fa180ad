use Rattle.core_book.proofs.Longer.{caught_longer}
use Rattle.core_book.proofs.laws.rows_stay_caught.Goals as goal

pub returns : goal.returns
returns c = caught_longer
