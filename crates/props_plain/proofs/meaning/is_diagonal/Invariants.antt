use Rattle.std.proofs.Common.{ℕ, ◌<◌}
use Rattle.loop_core.specs.Lists.{list_of}
use Rattle.index_props.specs.Meanings.{IsDiagonal}
use Rattle.props_plain.proofs.meaning.is_diagonal.Given as goal

abbrev pub invariant-loop-i : goal.invariant-loop-i
invariant-loop-i g l = (j : ℕ) → j < l.i → IsDiagonal (list_of l.arrays.lists l.d) (list_of l.arrays.lists l.f) (list_of l.arrays.lists l.p) j
