use Rattle.wave_levels.proofs.Rising.{LevelsSoFar}
use Rattle.wave_levels.proofs.each.level_of_each.Given as goal

abbrev pub invariant-loop-row : goal.invariant-loop-row
invariant-loop-row l = LevelsSoFar l.preds l.row l.levels.items
