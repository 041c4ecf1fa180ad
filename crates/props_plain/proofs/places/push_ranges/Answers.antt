use Rattle.index_props.specs.Rules.{range_instance}
use Rattle.props_plain.proofs.Plainly.{those_map_step}
use Rattle.props_plain.proofs.places.push_ranges.Goals as goal

pub loop-e-preserved : goal.loop-e-preserved
loop-e-preserved c =
    those_map_step (range_instance c.args.lo.now c.args.hi.now) c.args.f c.args.into.now c.loop-e.into c.push_range_if.new.into c.args.es.now c.loop-e.e-index c.e-item.result c.loop-e-test.true c.e-item.is c.loop-e.invariant c.in_ok-push_range_if.ensures
