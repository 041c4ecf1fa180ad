use Rattle.text_base.specs.Lines.{lines}
use Rattle.tests_verdicts.proofs.judged.accepted.Goals as goal

pub accept-requires : goal.accept-requires
accept-requires c = c.what_is_read_is_a_nest.ensures (lines c.args.text.now) c.in-Ok.nest c.in-Ok.ensures.answer
