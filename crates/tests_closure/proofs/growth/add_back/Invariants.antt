use Rattle.std.proofs.Common.{◌≡◌}
use Rattle.bound_close.specs.Closure.{IsClosureOf}
use Rattle.tests_closure.proofs.growth.add_back.Given as goal

abbrev pub invariant-loop-after : goal.invariant-loop-after
invariant-loop-after l = record {
  atoms : l.closure.atoms ≡ l.u.atoms;
  closure : IsClosureOf l.closure l.rules;
}
