use Rattle.index_props.specs.Rules.{segment_from, limit_instance}
use Rattle.props_plain.proofs.Plainly.{those_each_step}
use Rattle.props_plain.proofs.segment.push_limits_of.Goals as goal

pub loop-u-preserved : goal.loop-u-preserved
loop-u-preserved c =
    those_each_step (limit_instance c.args.strict c.args.e.now) (segment_from c.args.decls.now c.args.p c.args.es.now) c.args.p c.args.into.now c.loop-u.into c.push_limit_from.new.into c.args.es.now c.loop-u.u-index c.u-item.result c.loop-u-test.true c.u-item.is c.loop-u.invariant c.in_ok-push_limit_from.ensures
