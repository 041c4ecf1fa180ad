use Rattle.std.proofs.Common.{◌≡◌, ◌++◌, drop}
use Rattle.cert_prune.specs.Kept.{numbers, kept}
use Rattle.cert_prune.proofs.kept.kept.Given as goal

-- the steps so far and those left are all
abbrev pub invariant-loop-i : goal.invariant-loop-i
invariant-loop-i l = l.left ++ kept (numbers 0 l.marks) (drop l.i l.marks) (drop l.i l.steps) ≡ kept (numbers 0 l.marks) l.marks l.steps
