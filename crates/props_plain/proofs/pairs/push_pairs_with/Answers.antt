use Rattle.index_props.specs.Rules.{pair_instance}
use Rattle.props_plain.proofs.Plainly.{those_map_step}
use Rattle.props_plain.proofs.pairs.push_pairs_with.Goals as goal

pub loop-t-preserved : goal.loop-t-preserved
loop-t-preserved c =
    those_map_step (pair_instance c.args.line c.args.s.now) c.args.f c.args.into.now c.loop-t.into c.push_pair_if.new.into c.args.es.now c.loop-t.t-index c.t-item.result c.loop-t-test.true c.t-item.is c.loop-t.invariant c.in_ok-push_pair_if.ensures
