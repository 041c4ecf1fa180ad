use Rattle.std.proofs.Common.{arith}
use Rattle.bound_plain.proofs.Grids.{list-next, list-stop}
use Rattle.bound_ways.proofs.Bounding.{over-item}
use Rattle.bound_plain.proofs.plain.grid.Grid.take_all.Goals as goal

pub take_one-requires-clause-over : goal.take_one-requires-clause-over
take_one-requires-clause-over c = over-item c.args.atoms.now c.args.diffs.now c.loop-diff.diff-index c.diff-item.result c.requires.over (omega arith) c.diff-item.is

pub returns-then-not-branch-clause-opposed : goal.returns-then-not-branch-clause-opposed
returns-then-not-branch-clause-opposed c = λ _.
    list-stop c.args.atoms.now c.args.diffs.now c.requires.over c.args.self.now.rows.items c.loop-diff.self.rows.items c.loop-diff.diff-index c.diff-item.result (omega arith) c.diff-item.is c.loop-diff.invariant (c.in_ok-take_one.ensures.opposed c.if-not-branch.true)

pub loop-diff-preserved : goal.loop-diff-preserved
loop-diff-preserved c =
    list-next c.args.atoms.now c.args.diffs.now c.requires.over c.args.self.now.rows.items c.loop-diff.self.rows.items c.loop-diff.diff-index c.diff-item.result (omega arith) c.diff-item.is c.loop-diff.invariant c.take_one.new.self.rows.items (c.in_ok-take_one.ensures.taken c.if-not-branch.false)
