use Rattle.std.proofs.Common.{ℕ, ◌<◌}
use Rattle.std.specs.List.{All, Contains}
use Rattle.loop_core.specs.Lists.{list_of}
use Rattle.index_props.specs.Meanings.{at}
use Rattle.prop_check.specs.Twins.{IsHeld}
use Rattle.prop_check.proofs.injective.entries_of.Given as goal

abbrev pub invariant-loop-place : goal.invariant-loop-place
invariant-loop-place g l = All (IsHeld (list_of l.arrays.lists l.f)) l.entries.items × ((k : ℕ) → k < l.place → Contains l.entries.items (record { value = at (list_of l.arrays.lists l.f) k; place = k }))
