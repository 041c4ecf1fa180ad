use Rattle.std.proofs.Common.{◌+◌, ap, sym, subst, arith}
use Rattle.prop_check.specs.Broken.{FirstBroken}
use Rattle.prop_check.specs.Finds.{Shows}
use Rattle.prop_check.proofs.InOrder.{fails_first, one_more, no_more}
use Rattle.prop_check.proofs.check.all.Goals as goal

pub returns-in-Ok-Some-clause-refuses : goal.returns-in-Ok-Some-clause-refuses
returns-in-Ok-Some-clause-refuses g c =
    subst (λ n. FirstBroken c.args.props.now c.args.arrays.now (n + 1) c.in-Ok-Some.x.first c.in-Ok-Some.x.second) (sym c.loop-prop.invariant.0)
    (fails_first c.args.props.now c.args.arrays.now c.loop-prop.prop-index _ _ c.prop-item.result c.loop-prop-test.true c.prop-item.is c.loop-prop.invariant.1 (subst (Shows c.args.arrays.now c.prop-item.result.kind) c.in-Ok-Some.field-0-is c.in-Ok-Some.ensures.shows))

pub loop-prop-preserved : goal.loop-prop-preserved
loop-prop-preserved g c =
    (ap (λ n. n + 1) c.loop-prop.invariant.0, one_more c.args.props.now c.args.arrays.now c.loop-prop.prop-index c.prop-item.result c.loop-prop-test.true c.prop-item.is c.loop-prop.invariant.1 (subst (Shows c.args.arrays.now c.prop-item.result.kind) c.in-Ok-None.field-0-is c.in-Ok-None.ensures.shows))

pub returns-clause-passes : goal.returns-clause-passes
returns-clause-passes g c = no_more c.args.props.now c.args.arrays.now c.loop-prop.prop-index (omega (arith, c.loop-prop-test.false)) c.loop-prop.invariant.1
