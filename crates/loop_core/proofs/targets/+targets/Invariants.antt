use Rattle.std.proofs.Common.{◌≡◌, drop}
use Rattle.std.specs.List.{list_any}
use Rattle.loop_core.specs.Shape.{body_targets, same_array}
use Rattle.loop_core.proofs.targets.+targets.Given as goal

-- no item so far writes the array
abbrev pub invariant-is_written-loop-item : goal.invariant-is_written-loop-item
invariant-is_written-loop-item l =
    list_any (same_array l.array) (body_targets (drop l.item-index l.items))
    ≡ list_any (same_array l.array) (body_targets l.items)
