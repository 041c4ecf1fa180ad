use Rattle.std.proofs.Common.{ℕ, ◌≡◌, ◌<◌}
use Rattle.loop_core.specs.Lists.{list_of}
use Rattle.index_props.specs.Meanings.{at}
use Rattle.props_plain.proofs.meaning.is_injective_from.Given as goal

abbrev pub invariant-loop-b : goal.invariant-loop-b
invariant-loop-b g l = (j : ℕ) → j < l.b → at (list_of l.arrays.lists l.f) l.a ≡ at (list_of l.arrays.lists l.f) j → l.a ≡ j
