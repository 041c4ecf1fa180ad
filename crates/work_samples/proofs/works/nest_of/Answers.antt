use Rattle.text_base.specs.Lines.{lines}
use Rattle.work_samples.proofs.works.nest_of.Goals as goal

pub returns-in-Ok-clause-is_nest : goal.returns-in-Ok-clause-is_nest
returns-in-Ok-clause-is_nest c = c.what_is_read_is_a_nest.ensures (lines c.args.text.now) c.in-Ok.nest c.in-Ok.ensures.answer
