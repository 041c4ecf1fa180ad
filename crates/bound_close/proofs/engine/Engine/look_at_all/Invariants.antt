use Rattle.std.proofs.Common.{ℕ, ◌<◌, ◌≤◌}
use Rattle.bound_close.specs.Waits.{Steady, Covered, edges}
use Rattle.bound_close.proofs.engine.Engine.look_at_all.Given as goal

abbrev pub invariant-loop-rule : goal.invariant-loop-rule
invariant-loop-rule l = record {
  steady : Steady l.atoms l.rules l.initial.self l.self;
  covered : (k : ℕ) → k < l.rule → (s t cx cy : ℕ) → t ≤ edges l.initial.self → Covered l.atoms l.self s t cx cy k;
}
