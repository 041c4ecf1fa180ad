use Rattle.std.proofs.Common.{arith}
use Rattle.bound_close.specs.Waits.{edges}
use Rattle.bound_close.proofs.Passing.{steady-trans, covered-more, covered-from}
use Rattle.bound_close.proofs.Takes.{stopped-trans}
use Rattle.bound_close.proofs.engine.Engine.look_at_all.Goals as goal

pub returns-then-not-branch-clause-stopped : goal.returns-then-not-branch-clause-stopped
returns-then-not-branch-clause-stopped c = λ _. stopped-trans c.args.atoms.now c.args.rules.now c.args.self.now.workings c.loop-rule.self.workings c.first_look.new.self.workings c.loop-rule.invariant.steady.forward (c.in_ok-first_look.ensures.stopped c.if-not-branch.true)

pub loop-rule-preserved : goal.loop-rule-preserved
loop-rule-preserved c =
    let o = c.in_ok-first_look.ensures.onwards c.if-not-branch.false in
    record {
      steady = steady-trans c.args.atoms.now c.args.rules.now c.args.self.now c.loop-rule.self c.first_look.new.self c.loop-rule.invariant.steady o.steady;
      covered = covered-more c.args.atoms.now c.args.rules.now c.args.self.now c.loop-rule.self c.first_look.new.self c.loop-rule.invariant.steady.longer o c.loop-rule.rule (c.in_ok-first_look.ensures.covered c.if-not-branch.false) c.loop-rule.invariant.covered;
    }

pub returns-clause-covered : goal.returns-clause-covered
returns-clause-covered c = λ _ t k l. covered-from c.args.atoms.now c.args.rules.now c.loop-rule.self (edges c.args.self.now) k (c.loop-rule.invariant.covered k (omega arith) (edges c.args.self.now) (edges c.args.self.now) 0 0 (omega arith)) t
