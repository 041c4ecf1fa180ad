use Rattle.std.proofs.Common.{ℕ, ◌≤◌, take}
use Rattle.std.specs.List.{Contains}
use Rattle.bound_table.specs.declared.waiting.Waiting.{Waiting}
use Rattle.bound_close.specs.Waits.{Onwards, Covered, edges}
use Rattle.bound_close.proofs.engine.Engine.look_at_pair.Given as goal

abbrev pub invariant-loop-waiting : goal.invariant-loop-waiting
invariant-loop-waiting l = record {
  onwards : Onwards l.atoms l.rules l.initial.self l.self;
  seen : (e : Waiting) → Contains (take l.waiting-index l.waiting-items) e → (s t cx cy : ℕ) → t ≤ edges l.initial.self → Covered l.atoms l.self s t cx cy e.rule;
}
