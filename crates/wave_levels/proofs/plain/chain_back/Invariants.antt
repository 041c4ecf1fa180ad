use Rattle.wave_levels.proofs.Backward.{ChainFrom}
use Rattle.wave_levels.proofs.plain.chain_back.Given as goal

abbrev pub invariant-loop-back : goal.invariant-loop-back
invariant-loop-back l = ChainFrom l.preds l.levels l.back l.fn.last l.rows.items
