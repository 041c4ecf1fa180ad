use Rattle.std.proofs.Common.{arith, ◌<◌, take, length, []}
use Rattle.bound_ways.proofs.Bounding.{over-item}
use Rattle.bound_close.proofs.Closes.{refuted-wider, refuted-all, at-end}
use Rattle.bound_close.proofs.engine.Engine.run.Goals as goal

pub returns-then-not-branch-clause-refuted : goal.returns-then-not-branch-clause-refuted
returns-then-not-branch-clause-refuted c = λ _ k. refuted-wider c.args.atoms.now [] c.args.base.now c.args.rules.now c.start.new.self.workings.steps (c.in_ok-start.ensures.refuted c.if-not-branch.true k)

pub grow-requires-clause-over : goal.grow-requires-clause-over
grow-requires-clause-over c = over-item c.args.atoms.now c.args.base.now c.loop-at.at c.index-base-at.result c.requires.base (omega arith) c.index-base-at.is

pub returns-then-not-branch-2-clause-refuted : goal.returns-then-not-branch-2-clause-refuted
returns-then-not-branch-2-clause-refuted c = λ _ k.
    let lt : c.loop-at.at < length c.args.base.now = omega arith in
    refuted-all c.args.base.now c.loop-at.at c.index-base-at.result lt c.index-base-at.is c.args.atoms.now c.args.rules.now c.grow.new.self.workings.steps
    (c.in_ok-grow.ensures.refuted c.if-not-branch-2.true (take c.loop-at.at c.args.base.now) (at-end c.args.base.now c.loop-at.at c.index-base-at.result lt c.index-base-at.is) (c.loop-at.invariant.closed k))
