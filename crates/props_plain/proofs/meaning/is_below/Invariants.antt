use Rattle.std.proofs.Common.{ℕ, ◌<◌, length, pos}
use Rattle.std.specs.Int.Signed.{◌<ℤ◌}
use Rattle.loop_core.specs.Lists.{list_of}
use Rattle.index_props.specs.Meanings.{at, InSegment}
use Rattle.props_plain.proofs.meaning.is_below.Given as goal

abbrev pub invariant-loop-i : goal.invariant-loop-i
invariant-loop-i g l = (j : ℕ) → j < l.i → (a : ℕ) → a < length (list_of l.arrays.lists l.f) → InSegment (list_of l.arrays.lists l.p) j a → at (list_of l.arrays.lists l.f) a <ℤ pos j
