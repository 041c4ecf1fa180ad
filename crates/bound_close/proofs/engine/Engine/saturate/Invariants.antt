use Rattle.bound_plain.specs.Plain.{unfired}
use Rattle.bound_close.specs.Waits.{Steady, AllCovered}
use Rattle.bound_close.proofs.engine.Engine.saturate.Given as goal

abbrev pub invariant-passes : goal.invariant-passes
invariant-passes l = record {
  steady : Steady l.atoms l.rules l.initial.self l.self;
  covered : AllCovered l.atoms l.rules l.self l.since;
}

abbrev pub decreases-passes : goal.decreases-passes
decreases-passes l = unfired l.self.fired.items
