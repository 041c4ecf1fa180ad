use Rattle.std.proofs.Common.{ℕ, ◌<◌}
use Rattle.prop_check.specs.Pairs.{IsShownBy}
use Rattle.prop_check.proofs.plain.first_with.Given as goal

abbrev pub invariant-loop-k : goal.invariant-loop-k
invariant-loop-k g l = (j : ℕ) → j < l.k → IsShownBy l.arrays l.kind l.i j → ⊥
