use Rattle.std.proofs.Common.{arith, ℕ, ◌+◌, ◌≡◌, length, subst}
use Rattle.bound_close.specs.Waits.{Looked}
use Rattle.bound_close.proofs.Passing.{looked-trans, row-looked}
use Rattle.bound_close.proofs.Takes.{stopped-trans}
use Rattle.bound_close.proofs.engine.Engine.look_at_row.Goals as goal

pub returns-then-not-branch-clause-stopped : goal.returns-then-not-branch-clause-stopped
returns-then-not-branch-clause-stopped c = λ _. stopped-trans c.args.atoms.now c.args.rules.now c.args.self.now.workings c.loop-y.self.workings c.look_if_lowered.new.self.workings c.loop-y.invariant.steady.forward (c.in_ok-look_if_lowered.ensures.stopped c.if-not-branch.true)

pub loop-y-preserved : goal.loop-y-preserved
loop-y-preserved c = looked-trans c.args.atoms.now c.args.rules.now c.args.since c.args.x 0 c.args.x c.loop-y.y c.args.x (c.loop-y.y + 1) c.args.self.now c.loop-y.self c.look_if_lowered.new.self c.loop-y.invariant (c.in_ok-look_if_lowered.ensures.looked c.if-not-branch.false)

pub returns-clause-looked : goal.returns-clause-looked
returns-clause-looked c = λ _.
    let all : c.loop-y.y ≡ length c.args.atoms.now = omega arith in
    row-looked c.args.atoms.now c.args.rules.now c.args.since c.args.x 0 c.args.x c.args.self.now c.loop-y.self (subst (λ (y : ℕ). Looked c.args.atoms.now c.args.rules.now c.args.since c.args.x 0 c.args.x y c.args.self.now c.loop-y.self) all c.loop-y.invariant)
