use Rattle.std.proofs.Common.{map}
use Rattle.index_props.specs.Rules.{segments, limit_instance}
use Rattle.props_plain.proofs.Plainly.{those_flat_step}
use Rattle.props_plain.proofs.segment.push_limits.Goals as goal

pub loop-e-preserved : goal.loop-e-preserved
loop-e-preserved c =
    those_flat_step (λ s. map (limit_instance c.args.strict s) (segments c.args.decls.now c.args.p c.args.es.now)) c.args.f c.args.into.now c.loop-e.into c.push_limits_if.new.into c.args.es.now c.loop-e.e-index c.e-item.result c.loop-e-test.true c.e-item.is c.loop-e.invariant c.in_ok-push_limits_if.ensures
