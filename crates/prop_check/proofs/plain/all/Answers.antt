use Rattle.std.proofs.Common.{◌+◌, ap, sym, subst, arith}
use Rattle.prop_check.specs.Broken.{FirstBroken}
use Rattle.prop_check.proofs.InOrder.{fails_first, one_more, no_more}
use Rattle.prop_check.proofs.plain.all.Goals as goal

pub returns-in-Some-clause-refuses : goal.returns-in-Some-clause-refuses
returns-in-Some-clause-refuses g c =
    subst (λ n. FirstBroken c.args.props.now c.args.arrays.now (n + 1) c.in-Some.x.first c.in-Some.x.second) (sym c.loop-prop.invariant.0)
    (fails_first c.args.props.now c.args.arrays.now c.loop-prop.prop-index _ _ c.prop-item.result c.loop-prop-test.true c.prop-item.is c.loop-prop.invariant.1 c.in-Some.ensures)

pub loop-prop-preserved : goal.loop-prop-preserved
loop-prop-preserved g c =
    (ap (λ n. n + 1) c.loop-prop.invariant.0, one_more c.args.props.now c.args.arrays.now c.loop-prop.prop-index c.prop-item.result c.loop-prop-test.true c.prop-item.is c.loop-prop.invariant.1 c.in_default.ensures)

pub returns-clause-passes : goal.returns-clause-passes
returns-clause-passes g c = no_more c.args.props.now c.args.arrays.now c.loop-prop.prop-index (omega (arith, c.loop-prop-test.false)) c.loop-prop.invariant.1
