use Rattle.std.proofs.Common.{arith, ◌≡◌, ℕ, subst}
use Rattle.bound_close.specs.Waits.{AllCovered, edges}
use Rattle.bound_close.proofs.Passing.{steady-trans, all-looked, fewer-fired}
use Rattle.bound_close.proofs.Takes.{stopped-trans}
use Rattle.bound_close.proofs.engine.Engine.saturate.Goals as goal

pub returns-then-not-branch-clause-stopped : goal.returns-then-not-branch-clause-stopped
returns-then-not-branch-clause-stopped c = λ _. stopped-trans c.args.atoms.now c.args.rules.now c.args.self.now.workings c.passes.self.workings c.pass.new.self.workings c.passes.invariant.steady.forward (c.in_ok-pass.ensures.stopped c.if-not-branch.true)

pub returns-then-len-since-clause-steady : goal.returns-then-len-since-clause-steady
returns-then-len-since-clause-steady c = λ _.
    let l = c.in_ok-pass.ensures.looked c.if-not-branch.false in
    steady-trans c.args.atoms.now c.args.rules.now c.args.self.now c.passes.self c.pass.new.self c.passes.invariant.steady l.steady

pub returns-then-len-since-clause-covered : goal.returns-then-len-since-clause-covered
returns-then-len-since-clause-covered c = λ _.
    let l = c.in_ok-pass.ensures.looked c.if-not-branch.false in
    let same : edges c.passes.self ≡ edges c.pass.new.self = omega arith in
    subst (λ (s : ℕ). AllCovered c.args.atoms.now c.args.rules.now c.pass.new.self s) same (all-looked c.args.atoms.now c.args.rules.now c.passes.since c.passes.self c.pass.new.self c.passes.invariant.covered l)

pub passes-preserved : goal.passes-preserved
passes-preserved c =
    let l = c.in_ok-pass.ensures.looked c.if-not-branch.false in
    let same : edges c.passes.self ≡ c.len-edges.result = omega arith in
    record {
      steady = steady-trans c.args.atoms.now c.args.rules.now c.args.self.now c.passes.self c.pass.new.self c.passes.invariant.steady l.steady;
      covered = subst (λ (s : ℕ). AllCovered c.args.atoms.now c.args.rules.now c.pass.new.self s) same (all-looked c.args.atoms.now c.args.rules.now c.passes.since c.passes.self c.pass.new.self c.passes.invariant.covered l);
    }

pub passes-smaller : goal.passes-smaller
passes-smaller c =
    let l = c.in_ok-pass.ensures.looked c.if-not-branch.false in
    fewer-fired c.args.atoms.now c.args.rules.now c.passes.self c.pass.new.self l.steady (omega arith)
