use Rattle.std.proofs.Common.{◌≡◌, take}
use Rattle.dep_extract.proofs.walk.copy_around.Given as goal

abbrev pub invariant-loop-one : goal.invariant-loop-one
invariant-loop-one l = l.copy ≡ take l.one-index l.around
