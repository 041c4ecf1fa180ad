use Rattle.loop_lines.proofs.GrammarLaws.{found_is, only_is}
use Rattle.loop_lines.proofs.place.text_line.Goals as goal

pub returns-clause-found : goal.returns-clause-found
returns-clause-found c = found_is c.args.line.now c.read_bytes.result c.read_bytes.ensures

pub returns-clause-only : goal.returns-clause-only
returns-clause-only c = λ said is. only_is c.args.line.now c.read_bytes.result said is c.read_bytes.ensures
