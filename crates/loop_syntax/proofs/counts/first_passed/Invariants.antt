use Rattle.std.proofs.Common.{◌≡◌, ℕ, ◌≤◌, List, drop}
use Rattle.std.specs.List.{filter}
use Rattle.loop_syntax.specs.Scope.{empty}
use Rattle.loop_syntax.specs.Counts.{is_within, first_passed}
use Rattle.loop_syntax.specs.Flags.{AreFlagged}
use Rattle.loop_syntax.proofs.counts.first_passed.Given as goal

-- the lines left lead from here to the same end as all lines
abbrev pub invariant-loop-next : goal.invariant-loop-next
invariant-loop-next l = record {
  same : (written : List ℕ) → AreFlagged l.flags written → first_passed written l.scope l.references (filter is_within (drop l.next-index l.lines)) ≡ first_passed written empty 0 (filter is_within l.lines);
  arrays : l.scope.arrays ≤ 64;
  locals : l.scope.locals ≤ 16;
  few : l.references ≤ 16;
}
