use Rattle.dep_extract.proofs.Stepping.{number_step}
use Rattle.dep_extract.proofs.accesses.numbered.Goals as goal

pub loop-place-preserved : goal.loop-place-preserved
loop-place-preserved c =
    number_step c.args.accesses.now c.loop-place.place c.loop-place.brackets c.push_numbered.new.into c.index-accesses-place.result c.loop-place-test.true c.index-accesses-place.is c.loop-place.invariant c.in_ok-push_numbered.ensures
