use Rattle.std.proofs.Common.{◌≡◌, map}
use Rattle.std.specs.List.{range_with_len}
use Rattle.loop_meaning.specs.Weights.{weight}
use Rattle.loop_meaning.proofs.weights.weights.Given as goal

-- the rows so far have their weights
abbrev pub invariant-loop-row : goal.invariant-loop-row
invariant-loop-row l = l.weights.items ≡ map (weight l.arrays l.nest) (range_with_len 0 l.row)
