use Rattle.std.proofs.Common.{map}
use Rattle.index_props.specs.Entries.{of_array}
use Rattle.index_props.specs.Rules.{pair_instance}
use Rattle.props_plain.proofs.Plainly.{those_flat_step}
use Rattle.props_plain.proofs.pairs.push_pairs.Goals as goal

pub loop-s-preserved : goal.loop-s-preserved
loop-s-preserved c =
    those_flat_step (λ s. map (pair_instance c.args.line s) (of_array c.args.f c.args.es.now)) c.args.f c.args.into.now c.loop-s.into c.push_pairs_if.new.into c.args.es.now c.loop-s.s-index c.s-item.result c.loop-s-test.true c.s-item.is c.loop-s.invariant c.in_ok-push_pairs_if.ensures
