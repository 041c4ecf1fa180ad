use Rattle.std.proofs.Common.{take}
use Rattle.bound_ways.specs.Exact.{Holds}
use Rattle.bound_close.specs.Workings.{bounds}
use Rattle.bound_close.proofs.workings.Workings.first_open.Given as goal

abbrev pub invariant-loop-at : goal.invariant-loop-at
invariant-loop-at l = Holds l.atoms (bounds l.self) (take l.at l.premises)
