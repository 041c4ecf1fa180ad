use Rattle.std.proofs.Common.{◌≡◌, ◌+◌, drop}
use Rattle.bound_ways.specs.Places.{place_in}
use Rattle.bound_ways.proofs.place.place.Given as goal

abbrev pub invariant-loop-at : goal.invariant-loop-at
invariant-loop-at l = place_in l.atoms l.atom ≡ l.at + place_in (drop l.at l.atoms) l.atom
