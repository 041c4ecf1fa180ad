use Rattle.std.proofs.Common.{ℕ, ◌<◌, ◌≤ℤ◌, []}
use Rattle.std.specs.Int.Signed.{◌<ℤ◌}
use Rattle.loop_core.specs.Lists.{list_of}
use Rattle.loop_core.specs.Terms.{term_value}
use Rattle.index_props.specs.Meanings.{at}
use Rattle.props_plain.proofs.meaning.is_ranged.Given as goal

abbrev pub invariant-loop-place : goal.invariant-loop-place
invariant-loop-place g l = (j : ℕ) → j < l.place → (term_value l.arrays [] l.lo ≤ℤ at (list_of l.arrays.lists l.f) j) × (at (list_of l.arrays.lists l.f) j <ℤ term_value l.arrays [] l.hi)
