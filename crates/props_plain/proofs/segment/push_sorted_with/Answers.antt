use Rattle.std.proofs.Common.{map}
use Rattle.index_props.specs.Rules.{segments, sorted_instance}
use Rattle.props_plain.proofs.Plainly.{those_flat_step}
use Rattle.props_plain.proofs.segment.push_sorted_with.Goals as goal

pub loop-t-preserved : goal.loop-t-preserved
loop-t-preserved c =
    those_flat_step (λ t. map (sorted_instance c.args.line c.args.s.now t) (segments c.args.decls.now c.args.p c.args.es.now)) c.args.f c.args.into.now c.loop-t.into c.push_sorted_pair_if.new.into c.args.es.now c.loop-t.t-index c.t-item.result c.loop-t-test.true c.t-item.is c.loop-t.invariant c.in_ok-push_sorted_pair_if.ensures
