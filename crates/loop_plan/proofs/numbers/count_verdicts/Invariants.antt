use Rattle.std.proofs.Common.{◌≡◌, ◌+◌, drop}
use Rattle.std.specs.Prelude.{count_by}
use Rattle.loop_plan.specs.Numbers.{is_dropped, is_covered, is_kept}
use Rattle.loop_plan.proofs.numbers.count_verdicts.Given as goal

-- the numbers so far and those of the verdicts left are the whole numbers, and together they are the verdicts so far
abbrev pub invariant-loop-at : goal.invariant-loop-at
invariant-loop-at l = record {
  dropped : l.counts.dropped + count_by is_dropped (drop l.at l.verdicts) ≡ count_by is_dropped l.verdicts;
  covered : l.counts.covered + count_by is_covered (drop l.at l.verdicts) ≡ count_by is_covered l.verdicts;
  kept : l.counts.kept + count_by is_kept (drop l.at l.verdicts) ≡ count_by is_kept l.verdicts;
  all : l.counts.dropped + l.counts.covered + l.counts.kept ≡ l.at;
}
