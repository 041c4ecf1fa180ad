use Rattle.loop_plan.specs.Kept.{ArePairsBefore}
use Rattle.loop_plan.proofs.dependences.pairs_of_kept.Given as goal

-- the pairs so far are those of the kept relations so far
abbrev pub invariant-loop-at : goal.invariant-loop-at
invariant-loop-at g l = ArePairsBefore l.nest l.verdicts l.arrays l.at l.pairs.items
