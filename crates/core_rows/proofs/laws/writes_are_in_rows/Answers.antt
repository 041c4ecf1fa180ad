use Rattle.std.proofs.Common.{ap, ◌∙◌}
use Rattle.core_law.specs.Numbers.{instance_at}
use Rattle.core_rows.specs.Replay.{work_of}
use Rattle.core_rows.specs.RowLaws.{number}
use Rattle.core_rows.proofs.Agree.{values_agree}
use Rattle.core_rows.proofs.laws.writes_are_in_rows.Goals as goal

pub returns : goal.returns
returns c = λ r e fit reached k i j d begins cell at is.
    ap (instance_at (work_of r) (number r i j)).value ((c.registers_are_sequential.ensures (work_of r) e k fit reached).at_write (number r i j) begins cell is)
    ∙ values_agree r i j d at
