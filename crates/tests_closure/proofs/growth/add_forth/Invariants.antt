use Rattle.std.proofs.Common.{◌≡◌}
use Rattle.bound_close.specs.Closure.{IsClosureOf}
use Rattle.tests_closure.proofs.growth.add_forth.Given as goal

abbrev pub invariant-loop-at : goal.invariant-loop-at
invariant-loop-at l = record {
  atoms : l.closure.atoms ≡ l.u.atoms;
  closure : IsClosureOf l.closure l.rules;
}
