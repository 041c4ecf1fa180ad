use Rattle.std.proofs.Common.{ℕ, ◌<◌, length}
use Rattle.std.specs.Int.Signed.{◌<ℤ◌}
use Rattle.loop_core.specs.Lists.{list_of}
use Rattle.index_props.specs.Meanings.{at, InSegment}
use Rattle.props_plain.proofs.meaning.is_sorted.Given as goal

abbrev pub invariant-loop-i : goal.invariant-loop-i
invariant-loop-i g l = (j : ℕ) → j < l.i → (b : ℕ) → b < length (list_of l.arrays.lists l.f) → (a : ℕ) → a < b → InSegment (list_of l.arrays.lists l.p) j a → InSegment (list_of l.arrays.lists l.p) j b → at (list_of l.arrays.lists l.f) a <ℤ at (list_of l.arrays.lists l.f) b
