use Rattle.core_cells.proofs.Stores.{put_same, put_other, put_shape}
use Rattle.core_cells.proofs.laws.writes_change_one_cell.Goals as goal

pub returns : goal.returns
returns c = λ x cell word. record { own = put_same x cell word; other = λ q. put_other x cell q word; long = put_shape x cell word }
