use Rattle.wave_levels.proofs.Rising.{LevelsSoFar}
use Rattle.wave_levels.proofs.plain.levels_by_trial.Given as goal

abbrev pub invariant-loop-row : goal.invariant-loop-row
invariant-loop-row l = LevelsSoFar l.preds l.row l.levels.items
