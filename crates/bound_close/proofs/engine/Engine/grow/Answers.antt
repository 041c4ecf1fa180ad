use Rattle.std.proofs.Common.{arith, ℕ, ◌≡◌, ◌++◌, ◌∷◌, [], List, length, refl, subst, true, false}
use Rattle.uf_constraints.specs.declared.system.Diff.{Diff}
use Rattle.bound_close.specs.declared.engine.Engine.{Engine}
use Rattle.bound_close.specs.Closure.{Closed}
use Rattle.bound_close.specs.Passes.{Stopped}
use Rattle.bound_close.specs.Waits.{Steady, AllCovered, IsTending, edges}
use Rattle.bound_close.specs.Workings.{Refuted}
use Rattle.bound_ways.proofs.Bounding.{if-ok-map}
use Rattle.bound_close.proofs.Closes.{if-ok-two, tending, grow-closed, grow-stopped, grow-clashes}
use Rattle.bound_close.proofs.Passing.{tended-grown, covered-grown}
use Rattle.bound_close.proofs.engine.Engine.grow.Goals as goal

pub returns-then-not-branch-clause-refuted : goal.returns-then-not-branch-clause-refuted
returns-then-not-branch-clause-refuted c = λ _. grow-clashes c.args.atoms.now c.args.rules.now c.args.self.now.workings c.add_given.new.self c.args.diff.now c.args.at (c.in_ok-add_given.ensures.clashes c.if-not-branch.true)

pub saturate-requires-clause-tended : goal.saturate-requires-clause-tended
saturate-requires-clause-tended c =
    let g = c.in_ok-add_given.ensures.grown c.if-not-branch.false in
    let mid : Engine = record { workings = c.add_given.new.self; fired = c.args.self.now.fired; queues = c.args.self.now.queues } in
    tended-grown c.args.atoms.now c.args.rules.now c.args.self.now mid c.requires.rules c.requires.tending.tended g.fine g.lower refl refl

pub saturate-requires-clause-covered : goal.saturate-requires-clause-covered
saturate-requires-clause-covered c =
    let g = c.in_ok-add_given.ensures.grown c.if-not-branch.false in
    let mid : Engine = record { workings = c.add_given.new.self; fired = c.args.self.now.fired; queues = c.args.self.now.queues } in
    let same : edges c.args.self.now ≡ c.len-before.result = omega arith in
    subst (λ (s : ℕ). AllCovered c.args.atoms.now c.args.rules.now mid s) same (covered-grown c.args.atoms.now c.args.rules.now c.args.self.now mid g.moves refl refl c.requires.tending.covered)

pub returns-clause-tending : goal.returns-clause-tending
returns-clause-tending c =
    let mid : Engine = record { workings = c.add_given.new.self; fired = c.args.self.now.fired; queues = c.args.self.now.queues } in
    if-ok-two c.saturate.result (λ fine. fine ≡ true → Steady c.args.atoms.now c.args.rules.now mid c.saturate.new.self) (λ fine. fine ≡ true → AllCovered c.args.atoms.now c.args.rules.now c.saturate.new.self (edges c.saturate.new.self)) (λ fine. fine ≡ true → IsTending c.args.atoms.now c.args.rules.now c.saturate.new.self) c.saturate.ensures.steady c.saturate.ensures.covered
    (λ fine s a t. tending c.args.atoms.now c.args.rules.now c.args.self.now mid c.saturate.new.self c.requires.rules (s t) (a t))

pub returns-clause-closed : goal.returns-clause-closed
returns-clause-closed c =
    let g = c.in_ok-add_given.ensures.grown c.if-not-branch.false in
    let mid : Engine = record { workings = c.add_given.new.self; fired = c.args.self.now.fired; queues = c.args.self.now.queues } in
    if-ok-two c.saturate.result (λ fine. fine ≡ true → Steady c.args.atoms.now c.args.rules.now mid c.saturate.new.self) (λ fine. fine ≡ true → AllCovered c.args.atoms.now c.args.rules.now c.saturate.new.self (edges c.saturate.new.self)) (λ fine. fine ≡ true → (base : List Diff) → c.args.at ≡ length base → Closed c.args.atoms.now base c.args.rules.now c.args.self.now.workings → Closed c.args.atoms.now (base ++ c.args.diff.now ∷ []) c.args.rules.now c.saturate.new.self.workings) c.saturate.ensures.steady c.saturate.ensures.covered
    (λ fine s a t base is k. grow-closed c.args.atoms.now c.args.rules.now c.args.self.now mid c.saturate.new.self c.requires.rules c.args.diff.now c.args.at c.requires.over g base is k (s t) (a t))

pub returns-clause-refuted : goal.returns-clause-refuted
returns-clause-refuted c =
    let g = c.in_ok-add_given.ensures.grown c.if-not-branch.false in
    let mid : Engine = record { workings = c.add_given.new.self; fired = c.args.self.now.fired; queues = c.args.self.now.queues } in
    if-ok-map c.saturate.result (λ fine. fine ≡ false → Stopped c.args.atoms.now c.args.rules.now mid.workings c.saturate.new.self.workings) (λ fine. fine ≡ false → (base : List Diff) → c.args.at ≡ length base → Closed c.args.atoms.now base c.args.rules.now c.args.self.now.workings → Refuted c.args.atoms.now (base ++ c.args.diff.now ∷ []) c.args.rules.now c.saturate.new.self.workings.steps) c.saturate.ensures.stopped
    (λ fine s t base is k. grow-stopped c.args.atoms.now c.args.rules.now c.args.self.now mid c.saturate.new.self c.requires.rules c.args.diff.now c.args.at c.requires.over g base is k (s t))
