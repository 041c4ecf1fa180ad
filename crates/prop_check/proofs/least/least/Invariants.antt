use Rattle.std.proofs.Common.{ℕ, ◌<◌}
use Rattle.prop_check.proofs.least.least.Given as goal

abbrev pub invariant-loop-place : goal.invariant-loop-place
invariant-loop-place g l = (j : ℕ) → j < l.place → g.T.Test.is_bad l.test l.arrays j → ⊥
