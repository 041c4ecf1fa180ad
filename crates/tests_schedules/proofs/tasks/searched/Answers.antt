use Rattle.std.proofs.Common.{◌∙◌, sym}
use Rattle.tests_schedules.proofs.tasks.searched.Goals as goal

pub group_by_search-requires-clause-weights : goal.group_by_search-requires-clause-weights
group_by_search-requires-clause-weights c = (c.requires.weights.0 ∙ sym c.in_ok-preds.ensures.each_row ∙ sym c.in_ok-levels.ensures.levels.0, c.requires.weights.1)
