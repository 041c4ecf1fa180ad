use Rattle.std.proofs.Common.{◌≤◌, length}
use Rattle.cert_prune.specs.Needed.{AreNeeded}
use Rattle.cert_prune.proofs.needed.mark_back.Given as goal

-- the marks are right from this number on
abbrev pub invariant-loop-left : goal.invariant-loop-left
invariant-loop-left l = record {
  within : l.left ≤ length l.steps;
  needed : AreNeeded l.left l.steps l.marks;
}

abbrev pub decreases-loop-left : goal.decreases-loop-left
decreases-loop-left l = l.left
