use Rattle.std.proofs.Common.{arith, sym}
use Rattle.bound_table.specs.Rows.{entry}
use Rattle.bound_ways.proofs.Bounding.{over-item, Holds-more, Holds-all}
use Rattle.bound_plain.proofs.plain.grid.Grid.holds.Goals as goal

pub knows-requires-clause-over : goal.knows-requires-clause-over
knows-requires-clause-over c = over-item c.args.atoms.now c.args.diffs.now c.loop-diff.diff-index c.diff-item.result c.requires.over (omega arith) c.diff-item.is

pub returns-then-not-knows-clause-no : goal.returns-then-not-knows-clause-no
returns-then-not-knows-clause-no c = λ _. (c.diff-item.result, (c.loop-diff.diff-index, omega arith, sym c.diff-item.is), c.knows.ensures.no c.if-not-knows.true)

pub loop-diff-preserved : goal.loop-diff-preserved
loop-diff-preserved c = Holds-more c.args.atoms.now (entry c.args.self.now.rows.items) c.args.diffs.now c.loop-diff.diff-index c.diff-item.result (omega arith) c.loop-diff.invariant (c.knows.ensures.yes c.if-not-knows.false) c.diff-item.is

pub returns-clause-yes : goal.returns-clause-yes
returns-clause-yes c = λ _. Holds-all c.args.atoms.now (entry c.args.self.now.rows.items) c.args.diffs.now c.loop-diff.diff-index (omega arith) c.loop-diff.invariant
