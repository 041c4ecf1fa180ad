use Rattle.index_props.specs.Entries.{of_array}
use Rattle.index_props.specs.Rules.{segments, sorted_from, order}
use Rattle.props_plain.proofs.Plainly.{those_flat_step}
use Rattle.props_plain.proofs.segment.push_sorted.Goals as goal

pub loop-s-preserved : goal.loop-s-preserved
loop-s-preserved c =
    those_flat_step (sorted_from (order c.args.strict c.args.back) (segments c.args.decls.now c.args.p c.args.es.now) (of_array c.args.f c.args.es.now)) c.args.f c.args.into.now c.loop-s.into c.push_sorted_if.new.into c.args.es.now c.loop-s.s-index c.s-item.result c.loop-s-test.true c.s-item.is c.loop-s.invariant c.in_ok-push_sorted_if.ensures
