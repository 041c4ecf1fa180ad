use Rattle.std.proofs.Common.{◌-◌, ◌+◌, ◌≤◌, ◌<◌, ℕ, ◌≤ℤ◌, ◌<ℤ◌}
use Rattle.loop_core.specs.Lists.{list_of}
use Rattle.inspector_run.specs.Tries.{word}
use Rattle.inspector_run.specs.Ticks.{digits}
use Rattle.inspector_run.proofs.locate.count_up_to.Given as goal

-- the places below are at most the value, and those from the other end on are above it
abbrev pub invariant-loop-low : goal.invariant-loop-low
invariant-loop-low g l = record {
  ordered : l.low ≤ l.high;
  inside : l.high ≤ l.len - 1;
  low : (s : ℕ) → s < l.low → word (list_of l.arrays.lists l.array) s ≤ℤ l.value;
  high : (s : ℕ) → l.high ≤ s → s < l.len - 1 → l.value <ℤ word (list_of l.arrays.lists l.array) s;
  ticks : l.steps + digits (l.high - l.low) ≤ l.initial.steps + digits (l.len - 1);
}

abbrev pub decreases-loop-low : goal.decreases-loop-low
decreases-loop-low g l = l.high - l.low
