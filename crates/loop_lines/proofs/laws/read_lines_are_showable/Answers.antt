use Rattle.loop_lines.proofs.ShownLaws.{showable}
use Rattle.loop_lines.proofs.laws.read_lines_are_showable.Goals as goal

pub returns : goal.returns
returns c = λ text l h. showable text l h
