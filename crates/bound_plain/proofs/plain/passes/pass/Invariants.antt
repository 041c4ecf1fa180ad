use Rattle.std.proofs.Common.{◌<◌}
use Rattle.bound_plain.specs.Plain.{Visited}
use Rattle.bound_plain.proofs.plain.passes.pass.Given as goal

abbrev pub invariant-loop-at : goal.invariant-loop-at
invariant-loop-at l = Visited l.atoms l.rules l.grid.rows.items (λ k. k < l.at) l.initial.fired l.fired l.new
