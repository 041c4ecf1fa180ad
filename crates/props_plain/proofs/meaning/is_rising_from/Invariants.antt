use Rattle.std.proofs.Common.{ℕ, ◌≤◌, ◌<◌, ◌≤ℤ◌}
use Rattle.loop_core.specs.Lists.{list_of}
use Rattle.index_props.specs.Meanings.{at}
use Rattle.props_plain.proofs.meaning.is_rising_from.Given as goal

abbrev pub invariant-loop-b : goal.invariant-loop-b
invariant-loop-b g l = (j : ℕ) → j < l.b → l.a ≤ j → at (list_of l.arrays.lists l.p) l.a ≤ℤ at (list_of l.arrays.lists l.p) j
