use Rattle.std.proofs.Common.{ℕ, ◌<◌, length}
use Rattle.std.specs.Int.Signed.{◌<ℤ◌}
use Rattle.loop_core.specs.Lists.{list_of}
use Rattle.index_props.specs.Meanings.{at}
use Rattle.props_plain.proofs.meaning.is_strict.Given as goal

abbrev pub invariant-loop-a : goal.invariant-loop-a
invariant-loop-a g l = (j : ℕ) → j < l.a → (b : ℕ) → b < length (list_of l.arrays.lists l.p) → j < b → at (list_of l.arrays.lists l.p) j <ℤ at (list_of l.arrays.lists l.p) b
