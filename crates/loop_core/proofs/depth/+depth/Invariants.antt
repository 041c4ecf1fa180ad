use Rattle.std.proofs.Common.{◌≤◌, ◌<◌, ℕ, slice_index_or}
use Rattle.loop_core.specs.declared.nest.Item.{Item}
use Rattle.loop_core.specs.Depth.{depth}
use Rattle.loop_core.proofs.depth.+depth.Given as goal

-- no item so far is deeper
abbrev pub invariant-has_depth_within-loop-item : goal.invariant-has_depth_within-loop-item
invariant-has_depth_within-loop-item l = (k : ℕ) (d : Item) → k < l.item-index → depth (slice_index_or l.items k d) ≤ l.limit
