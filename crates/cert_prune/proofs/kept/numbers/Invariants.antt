use Rattle.std.proofs.Common.{◌≡◌, ◌≤◌, ◌++◌, drop}
use Rattle.cert_prune.specs.Kept.{numbers}
use Rattle.cert_prune.proofs.kept.numbers.Given as goal

-- the numbers so far and those left are all
abbrev pub invariant-loop-mark : goal.invariant-loop-mark
invariant-loop-mark l = record {
  whole : l.ns.items ++ numbers l.number (drop l.mark-index l.marks) ≡ numbers 0 l.marks;
  few : l.number ≤ l.mark-index;
}
