use Rattle.std.proofs.Common.{◌≡◌, take}
use Rattle.access_bounds.proofs.same.agree.Given as goal

abbrev pub invariant-loop-place : goal.invariant-loop-place
invariant-loop-place l = take l.place l.base ≡ take l.place l.other
