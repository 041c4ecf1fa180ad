use Rattle.index_props.specs.Rules.{segment_from, sorted_instance}
use Rattle.props_plain.proofs.Plainly.{those_each_step}
use Rattle.props_plain.proofs.segment.push_sorted_pair.Goals as goal

pub loop-u-preserved : goal.loop-u-preserved
loop-u-preserved c =
    those_each_step (sorted_instance c.args.line c.args.s.now c.args.t.now) (segment_from c.args.decls.now c.args.p c.args.es.now) c.args.p c.args.into.now c.loop-u.into c.push_sorted_from.new.into c.args.es.now c.loop-u.u-index c.u-item.result c.loop-u-test.true c.u-item.is c.loop-u.invariant c.in_ok-push_sorted_from.ensures
