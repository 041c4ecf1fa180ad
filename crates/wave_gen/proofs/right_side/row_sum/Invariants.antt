use Rattle.std.proofs.Common.{◌≡◌, ◌≤◌, ◌-◌, ◌+ℤ◌, pos}
use Rattle.std.specs.List.{fold, range_with_len}
use Rattle.wave_base.specs.Word.{wrapped}
use Rattle.wave_gen.specs.RightSide.{term}
use Rattle.wave_gen.proofs.right_side.row_sum.Given as goal

-- the sum over the places so far, which are places of the row
abbrev pub invariant-loop-at : goal.invariant-loop-at
invariant-loop-at l = record {
  sum : l.sum ≡ wrapped (fold (λ z p. z +ℤ term l.m l.row p) (pos 0) (range_with_len l.first (l.at - l.first)));
  within : l.at - l.first ≤ l.end - l.first;
}
