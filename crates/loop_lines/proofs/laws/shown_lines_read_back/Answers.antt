use Rattle.loop_lines.proofs.ShownLaws.{reads_back}
use Rattle.loop_lines.proofs.laws.shown_lines_read_back.Goals as goal

pub returns : goal.returns
returns c = λ l h. reads_back l h
