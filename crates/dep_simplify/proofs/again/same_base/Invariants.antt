use Rattle.std.proofs.Common.{◌≡◌, take}
use Rattle.dep_simplify.proofs.again.same_base.Given as goal

abbrev pub invariant-loop-k : goal.invariant-loop-k
invariant-loop-k l = take l.k l.base ≡ take l.k l.other
