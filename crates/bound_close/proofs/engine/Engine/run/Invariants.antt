use Rattle.std.proofs.Common.{take, []}
use Rattle.bound_close.specs.Closure.{Closed}
use Rattle.bound_close.specs.Waits.{IsTending}
use Rattle.bound_close.specs.Workings.{Kept}
use Rattle.bound_close.proofs.engine.Engine.run.Given as goal

abbrev pub invariant-loop-at : goal.invariant-loop-at
invariant-loop-at l = record {
  tending : IsTending l.atoms l.rules l.self;
  closed : Kept l.atoms [] l.rules l.fn.self.workings → Closed l.atoms (take l.at l.base) l.rules l.self.workings;
}
