use Rattle.bound_close.specs.Waits.{Looked}
use Rattle.bound_close.proofs.engine.Engine.pass.Given as goal

abbrev pub invariant-loop-x : goal.invariant-loop-x
invariant-loop-x l = Looked l.atoms l.rules l.since 0 0 l.x 0 l.initial.self l.self
