use Rattle.std.proofs.Common.{◌+◌}
use Rattle.bound_close.proofs.Passing.{looked-trans}
use Rattle.bound_close.proofs.Takes.{stopped-trans}
use Rattle.bound_close.proofs.engine.Engine.pass.Goals as goal

pub returns-then-not-branch-clause-stopped : goal.returns-then-not-branch-clause-stopped
returns-then-not-branch-clause-stopped c = λ _. stopped-trans c.args.atoms.now c.args.rules.now c.args.self.now.workings c.loop-x.self.workings c.look_at_row.new.self.workings c.loop-x.invariant.steady.forward (c.in_ok-look_at_row.ensures.stopped c.if-not-branch.true)

pub loop-x-preserved : goal.loop-x-preserved
loop-x-preserved c = looked-trans c.args.atoms.now c.args.rules.now c.args.since 0 0 c.loop-x.x 0 (c.loop-x.x + 1) 0 c.args.self.now c.loop-x.self c.look_at_row.new.self c.loop-x.invariant (c.in_ok-look_at_row.ensures.looked c.if-not-branch.false)
