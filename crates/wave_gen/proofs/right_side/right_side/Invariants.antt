use Rattle.std.proofs.Common.{◌≡◌, map}
use Rattle.std.specs.List.{range_with_len}
use Rattle.wave_gen.specs.RightSide.{row_sum}
use Rattle.wave_gen.proofs.right_side.right_side.Given as goal

-- the sums of the rows so far
abbrev pub invariant-loop-row : goal.invariant-loop-row
invariant-loop-row l = l.sums.items ≡ map (row_sum l.m) (range_with_len 0 l.row)
