use Rattle.index_props.specs.Rules.{diagonal_at}
use Rattle.props_plain.proofs.Plainly.{those_flat_step}
use Rattle.props_plain.proofs.places.push_diagonals.Goals as goal

pub loop-e-preserved : goal.loop-e-preserved
loop-e-preserved c =
    those_flat_step (diagonal_at c.args.decls.now c.args.f c.args.p c.args.es.now) c.args.d c.args.into.now c.loop-e.into c.push_diagonal_if.new.into c.args.es.now c.loop-e.e-index c.e-item.result c.loop-e-test.true c.e-item.is c.loop-e.invariant c.in_ok-push_diagonal_if.ensures
