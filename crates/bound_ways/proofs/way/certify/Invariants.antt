use Rattle.std.proofs.Common.{take}
use Rattle.bound_ways.specs.Log.{Naming}
use Rattle.bound_ways.proofs.way.certify.Given as goal

abbrev pub invariant-loop-premise : goal.invariant-loop-premise
invariant-loop-premise l = Naming l.atoms l.table.edges.items l.initial.steps l.steps (take l.premise-index l.premises) l.places
