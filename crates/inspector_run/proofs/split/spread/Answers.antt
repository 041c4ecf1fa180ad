use Rattle.std.proofs.Common.{[], refl, sym, subst, flat_map}
use Rattle.inspector_run.specs.declared.plan.InspOp.TheVariants.{Loop}
use Rattle.inspector_run.specs.Ticks.{found_in}
use Rattle.inspector_run.specs.Inverses.{Serve}
use Rattle.inspector_run.specs.Pieces.{values_in}
use Rattle.inspector_run.proofs.Arms.{arm_ready}
use Rattle.inspector_run.proofs.split.spread.Goals as goal

pub along-requires-clause-run : goal.along-requires-clause-run
along-requires-clause-run g c κs within =
    let a = c.args.arrays.now in
    let o = Loop c.args.outer.var c.args.outer.lo.now c.args.outer.hi.now in
    let after = c.args.outer.after.now in
    record {
      ready = arm_ready a o o after c.args.outer.var [] (values_in c.whole-whole.result) refl c.whole-whole.ensures.values refl refl c.whole-whole.ensures.near c.requires.ready;
      served = subst (λ l. Serve a l (flat_map found_in after)) (sym c.as_slice.ensures.value) c.in_ok-inverses.ensures.serves;
    }
