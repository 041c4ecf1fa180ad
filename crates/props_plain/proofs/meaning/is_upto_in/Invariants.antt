use Rattle.std.proofs.Common.{ℕ, ◌<◌, pos, ◌≤ℤ◌}
use Rattle.loop_core.specs.Lists.{list_of}
use Rattle.index_props.specs.Meanings.{at, InSegment}
use Rattle.props_plain.proofs.meaning.is_upto_in.Given as goal

abbrev pub invariant-loop-a : goal.invariant-loop-a
invariant-loop-a g l = (j : ℕ) → j < l.a → InSegment (list_of l.arrays.lists l.p) l.i j → at (list_of l.arrays.lists l.f) j ≤ℤ pos l.i
