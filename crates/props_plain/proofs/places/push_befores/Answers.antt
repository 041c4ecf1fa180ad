use Rattle.index_props.specs.Rules.{before_at}
use Rattle.props_plain.proofs.Plainly.{those_flat_step}
use Rattle.props_plain.proofs.places.push_befores.Goals as goal

pub loop-e-preserved : goal.loop-e-preserved
loop-e-preserved c =
    those_flat_step (before_at c.args.decls.now c.args.g c.args.es.now) c.args.f c.args.into.now c.loop-e.into c.push_before_if.new.into c.args.es.now c.loop-e.e-index c.e-item.result c.loop-e-test.true c.e-item.is c.loop-e.invariant c.in_ok-push_before_if.ensures
