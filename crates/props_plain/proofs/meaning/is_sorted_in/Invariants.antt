use Rattle.std.proofs.Common.{ℕ, ◌<◌}
use Rattle.std.specs.Int.Signed.{◌<ℤ◌}
use Rattle.loop_core.specs.Lists.{list_of}
use Rattle.index_props.specs.Meanings.{at, InSegment}
use Rattle.props_plain.proofs.meaning.is_sorted_in.Given as goal

abbrev pub invariant-loop-b : goal.invariant-loop-b
invariant-loop-b g l = (j : ℕ) → j < l.b → (a : ℕ) → a < j → InSegment (list_of l.arrays.lists l.p) l.i a → InSegment (list_of l.arrays.lists l.p) l.i j → at (list_of l.arrays.lists l.f) a <ℤ at (list_of l.arrays.lists l.f) j
