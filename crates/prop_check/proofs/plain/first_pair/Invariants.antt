use Rattle.std.proofs.Common.{ℕ, ◌<◌}
use Rattle.prop_check.specs.Pairs.{IsShownBy}
use Rattle.prop_check.proofs.plain.first_pair.Given as goal

abbrev pub invariant-loop-i : goal.invariant-loop-i
invariant-loop-i g l = (j k : ℕ) → j < l.i → IsShownBy l.arrays l.kind j k → ⊥
