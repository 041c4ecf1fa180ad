use Rattle.std.proofs.Common.{◌≡◌, ◌++◌, drop}
use Rattle.inspector_gen.specs.Plans.{tests_due}
use Rattle.inspector_gen.proofs.tests.push_tests.Given as goal

-- the tests so far, and those that are left
abbrev pub invariant-loop-d : goal.invariant-loop-d
invariant-loop-d l = l.ops ++ tests_due (drop l.d-index l.base) l.earlier l.fixed ≡ l.initial.ops ++ tests_due l.base l.earlier l.fixed
