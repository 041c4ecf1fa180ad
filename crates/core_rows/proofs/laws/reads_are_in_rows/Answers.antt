use Rattle.std.proofs.Common.{ap, ◌∙◌}
use Rattle.std.specs.Prelude.{List, ℤ}
use Rattle.std.proofs.lemmas.Option.{slice_get_within}
use Rattle.core_cells.specs.Cells.{at_cell}
use Rattle.core_rows.specs.Locals.{row_of}
use Rattle.core_rows.specs.Replay.{work_of}
use Rattle.core_rows.specs.RowLaws.{number}
use Rattle.core_rows.proofs.Agree.{cells_agree}
use Rattle.core_rows.proofs.laws.reads_are_in_rows.Goals as goal

pub returns : goal.returns
returns c = λ r e fit reached k i j d begins cell at is.
    c.reads_are_sequential.ensures (work_of r) e fit reached k (number r i j) begins cell is
    ∙ ap (λ (x : List (List ℤ)). at_cell x cell) (cells_agree r i j (slice_get_within (row_of r i) j d at))
