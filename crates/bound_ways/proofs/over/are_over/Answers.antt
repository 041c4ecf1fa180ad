use Rattle.std.proofs.Common.{arith, sym}
use Rattle.bound_ways.specs.Over.{IsOver}
use Rattle.bound_ways.proofs.Prefix.{each-more, each-all}
use Rattle.bound_ways.proofs.over.are_over.Goals as goal

pub loop-diff-preserved : goal.loop-diff-preserved
loop-diff-preserved c = each-more (IsOver c.args.atoms.now) c.args.diffs.now c.loop-diff.diff-index c.diff-item.result (omega arith) c.loop-diff.invariant (rw (← c.diff-item.is) (c.is_over.ensures.yes c.if-not-is_over.false))

pub returns-clause-yes : goal.returns-clause-yes
returns-clause-yes c = λ _. each-all (IsOver c.args.atoms.now) c.args.diffs.now c.loop-diff.diff-index (omega arith) c.loop-diff.invariant

pub returns-then-not-is_over-clause-no : goal.returns-then-not-is_over-clause-no
returns-then-not-is_over-clause-no c = λ _ all. c.is_over.ensures.no c.if-not-is_over.true (all c.diff-item.result (c.loop-diff.diff-index, omega arith, sym c.diff-item.is))
