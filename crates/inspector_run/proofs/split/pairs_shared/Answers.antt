use Rattle.std.proofs.Common.{◌≡◌, ◌∷◌, [], subst}
use Rattle.inspector_run.specs.declared.plan.InspOp.TheVariants.{Loop}
use Rattle.inspector_run.specs.Ready.{IsReady}
use Rattle.inspector_run.proofs.split.pairs_shared.Goals as goal

pub spread-requires-clause-ready : goal.spread-requires-clause-ready
spread-requires-clause-ready g c κs within =
    let o = c.in-Some.outer in
    let is : c.args.ops.now ≡ Loop o.var o.lo.now o.hi.now ∷ o.after.now = c.in-Some.ensures {u = tt} in
    subst (λ ops. IsReady c.args.arrays.now ops []) is c.requires.ready
