use Rattle.std.proofs.Common.{◌≡◌, take}
use Rattle.bound_ways.proofs.copy.copy_steps.Given as goal

abbrev pub invariant-loop-step : goal.invariant-loop-step
invariant-loop-step l = l.copy ≡ take l.step-index l.steps
