use Rattle.core_cells.proofs.Stores.{same_store}
use Rattle.core_cells.proofs.laws.cells_make_arrays.Goals as goal

pub returns : goal.returns
returns c = same_store
