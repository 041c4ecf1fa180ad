use Rattle.uf_constraints.proofs.Plainly.{first_step}
use Rattle.uf_constraints.proofs.plain.first_places.Goals as goal

pub loop-place-preserved : goal.loop-place-preserved
loop-place-preserved c =
    first_step c.args.atoms.now c.loop-place.place c.loop-place.kept c.push_new.new.into c.index-atoms-place.result c.loop-place-test.true c.index-atoms-place.is c.loop-place.invariant c.in_ok-push_new.ensures
