use Rattle.std.proofs.Common.{◌≤◌, ◌-◌}
use Rattle.loop_core.specs.Lists.{list_of}
use Rattle.prop_check.specs.Segments.{IsClean, AreSkips}
use Rattle.prop_check.proofs.segment.first_in.Given as goal

abbrev pub decreases-loop-k : goal.decreases-loop-k
decreases-loop-k g l = l.span.to - l.k

abbrev pub invariant-loop-k : goal.invariant-loop-k
invariant-loop-k g l = (l.span.from ≤ l.k) × IsClean l.by.rule (list_of l.arrays.lists l.by.f) l.i l.span.from l.k × AreSkips l.by.rule (list_of l.arrays.lists l.by.f) l.i l.skips.items
