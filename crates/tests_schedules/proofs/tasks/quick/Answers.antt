use Rattle.std.proofs.Common.{◌∙◌, sym}
use Rattle.tests_schedules.proofs.tasks.quick.Goals as goal

pub group-requires-clause-weights : goal.group-requires-clause-weights
group-requires-clause-weights c = (c.requires.weights.0 ∙ sym c.in_ok-preds.ensures.each_row ∙ sym c.in_ok-levels.ensures.levels.0, c.requires.weights.1)
