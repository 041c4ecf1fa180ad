use Rattle.std.proofs.Common.{◌≡◌, ◌<◌, ◌≤◌, ◌-◌, ℕ, length, take}
use Rattle.super_tasks.specs.Shares.{weight_of}
use Rattle.super_tasks.proofs.share.end_of.Given as goal

abbrev pub invariant-loop-before : goal.invariant-loop-before
invariant-loop-before l = record {
  from : l.fn.start.at ≤ l.at;
  within : l.at ≤ length l.rows;
  weighs : l.before ≡ weight_of l.weights (take l.at l.rows);
  passed : (s : ℕ) → l.fn.start.at ≤ s → s < l.at → weight_of l.weights (take s l.rows) < l.limit;
}

abbrev pub decreases-loop-before : goal.decreases-loop-before
decreases-loop-before l = length l.rows - l.at
