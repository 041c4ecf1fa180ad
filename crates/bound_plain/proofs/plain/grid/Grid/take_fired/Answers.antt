use Rattle.std.proofs.Common.{arith}
use Rattle.bound_plain.proofs.Grids.{fired-next, fired-stop}
use Rattle.bound_ways.proofs.Bounding.{got, contains-got}
use Rattle.bound_plain.proofs.plain.grid.Grid.take_fired.Goals as goal

pub take_results-requires-clause-over : goal.take_results-requires-clause-over
take_results-requires-clause-over c = (c.requires.over c.index-rules-at.result (contains-got c.args.rules.now c.loop-at.at c.index-rules-at.result (got c.args.rules.now c.loop-at.at c.index-rules-at.result (omega arith) c.index-rules-at.is))).results

pub returns-then-not-branch-clause-opposed : goal.returns-then-not-branch-clause-opposed
returns-then-not-branch-clause-opposed c = λ _.
    let at = got c.args.rules.now c.loop-at.at c.index-rules-at.result (omega arith) c.index-rules-at.is in
    fired-stop c.args.atoms.now c.args.rules.now c.args.fired.now c.requires.over c.args.self.now.rows.items c.loop-at.self.rows.items c.take_results.new.self.rows.items c.loop-at.at c.index-rules-at.result at c.loop-at.invariant c.in_ok-take_results.field-0 c.in_ok-take_results.ensures.skipped (omega arith) c.if-not-branch.true c.in_ok-take_results.ensures.opposed

pub loop-at-preserved : goal.loop-at-preserved
loop-at-preserved c =
    let at = got c.args.rules.now c.loop-at.at c.index-rules-at.result (omega arith) c.index-rules-at.is in
    fired-next c.args.atoms.now c.args.rules.now c.args.fired.now c.requires.over c.args.self.now.rows.items c.loop-at.self.rows.items c.take_results.new.self.rows.items c.loop-at.at c.index-rules-at.result at c.loop-at.invariant c.in_ok-take_results.field-0 c.in_ok-take_results.ensures.skipped c.if-not-branch.false c.in_ok-take_results.ensures.taken
