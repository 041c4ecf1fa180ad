use Rattle.bound_close.specs.Waits.{Looked}
use Rattle.bound_close.proofs.engine.Engine.look_at_row.Given as goal

abbrev pub invariant-loop-y : goal.invariant-loop-y
invariant-loop-y l = Looked l.atoms l.rules l.since l.x 0 l.x l.y l.initial.self l.self
