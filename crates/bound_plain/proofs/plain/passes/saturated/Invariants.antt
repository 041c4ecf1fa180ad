use Rattle.std.proofs.Common.{◌≡◌, length}
use Rattle.bound_plain.specs.Plain.{ResultsDerivable, unfired}
use Rattle.bound_plain.proofs.plain.passes.saturated.Given as goal

abbrev pub invariant-passes : goal.invariant-passes
invariant-passes l = record {
  long : length l.fired.items ≡ length l.rules;
  derivable : ResultsDerivable l.atoms l.base l.rules l.fired.items;
}

abbrev pub decreases-passes : goal.decreases-passes
decreases-passes l = unfired l.fired.items
