use Rattle.std.proofs.Common.{arith, ℕ, ◌≡◌, [], subst, true, false}
use Rattle.bound_close.specs.Closure.{Closed}
use Rattle.bound_close.specs.Passes.{Stopped}
use Rattle.bound_close.specs.Waits.{Steady, AllCovered, IsTending, edges}
use Rattle.bound_close.specs.Workings.{Kept, Refuted}
use Rattle.bound_ways.proofs.Bounding.{if-ok-map}
use Rattle.bound_close.proofs.Closes.{if-ok-two, tending, start-closed, start-stopped}
use Rattle.bound_close.proofs.engine.Engine.start.Goals as goal

pub returns-then-not-branch-clause-refuted : goal.returns-then-not-branch-clause-refuted
returns-then-not-branch-clause-refuted c = λ _ k. c.in_ok-look_at_all.ensures.stopped c.if-not-branch.true [] k

pub saturate-requires-clause-covered : goal.saturate-requires-clause-covered
saturate-requires-clause-covered c =
    let same : edges c.args.self.now ≡ c.len-since.result = omega arith in
    subst (λ (s : ℕ). AllCovered c.args.atoms.now c.args.rules.now c.look_at_all.new.self s) same (c.in_ok-look_at_all.ensures.covered c.if-not-branch.false)

pub returns-clause-tending : goal.returns-clause-tending
returns-clause-tending c =
    if-ok-two c.saturate.result (λ fine. fine ≡ true → Steady c.args.atoms.now c.args.rules.now c.look_at_all.new.self c.saturate.new.self) (λ fine. fine ≡ true → AllCovered c.args.atoms.now c.args.rules.now c.saturate.new.self (edges c.saturate.new.self)) (λ fine. fine ≡ true → IsTending c.args.atoms.now c.args.rules.now c.saturate.new.self) c.saturate.ensures.steady c.saturate.ensures.covered
    (λ fine s a t. tending c.args.atoms.now c.args.rules.now c.args.self.now c.look_at_all.new.self c.saturate.new.self c.requires.rules (s t) (a t))

pub returns-clause-closed : goal.returns-clause-closed
returns-clause-closed c =
    if-ok-two c.saturate.result (λ fine. fine ≡ true → Steady c.args.atoms.now c.args.rules.now c.look_at_all.new.self c.saturate.new.self) (λ fine. fine ≡ true → AllCovered c.args.atoms.now c.args.rules.now c.saturate.new.self (edges c.saturate.new.self)) (λ fine. fine ≡ true → Kept c.args.atoms.now [] c.args.rules.now c.args.self.now.workings → Closed c.args.atoms.now [] c.args.rules.now c.saturate.new.self.workings) c.saturate.ensures.steady c.saturate.ensures.covered
    (λ fine s a t k. start-closed c.args.atoms.now c.args.rules.now c.args.self.now c.look_at_all.new.self c.saturate.new.self c.requires.rules (c.in_ok-look_at_all.ensures.steady c.if-not-branch.false) (s t) (a t) k)

pub returns-clause-refuted : goal.returns-clause-refuted
returns-clause-refuted c =
    if-ok-map c.saturate.result (λ fine. fine ≡ false → Stopped c.args.atoms.now c.args.rules.now c.look_at_all.new.self.workings c.saturate.new.self.workings) (λ fine. fine ≡ false → Kept c.args.atoms.now [] c.args.rules.now c.args.self.now.workings → Refuted c.args.atoms.now [] c.args.rules.now c.saturate.new.self.workings.steps) c.saturate.ensures.stopped
    (λ fine s t k. start-stopped c.args.atoms.now c.args.rules.now c.args.self.now c.look_at_all.new.self c.saturate.new.self c.requires.rules (c.in_ok-look_at_all.ensures.steady c.if-not-branch.false) (s t) k)
