use Rattle.bound_ways.specs.Places.{AreFirst}
use Rattle.bound_ways.proofs.places.table.Given as goal

abbrev pub invariant-loop-atom : goal.invariant-loop-atom
invariant-loop-atom l = AreFirst l.atoms l.table.items
