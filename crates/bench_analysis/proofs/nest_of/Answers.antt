use Rattle.text_base.specs.Lines.{lines}
use Rattle.bench_analysis.proofs.nest_of.Goals as goal

pub returns-in-Ok : goal.returns-in-Ok
returns-in-Ok c = c.what_is_read_is_a_nest.ensures (lines c.args.text.now) c.in-Ok.nest c.in-Ok.ensures.answer
