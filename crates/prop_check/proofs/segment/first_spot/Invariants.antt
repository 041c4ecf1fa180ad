use Rattle.std.proofs.Common.{ℕ, ◌+◌, ◌-◌, ◌<◌}
use Rattle.loop_core.specs.Lists.{list_of}
use Rattle.prop_check.specs.Segments.{IsBadIn, AreSkips}
use Rattle.prop_check.proofs.segment.first_spot.Given as goal

abbrev pub invariant-loop-i : goal.invariant-loop-i
invariant-loop-i g l = ((j k : ℕ) → j + 1 < l.i → IsBadIn l.by.rule (list_of l.arrays.lists l.by.f) (list_of l.arrays.lists l.by.p) j k → ⊥) × AreSkips l.by.rule (list_of l.arrays.lists l.by.f) (l.i - 1) l.skips.items
