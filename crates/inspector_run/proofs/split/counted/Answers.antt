use Rattle.std.proofs.Common.{rules, ◌≡◌, [], sym, subst}
use Rattle.loop_core.specs.declared.env.Env.TheVariants.{Empty}
use Rattle.loop_core.specs.declared.env.Env.TheFolds.{the_lemmas as of_env}
use Rattle.loop_core.specs.Variables.{bindings}
use Rattle.inspector_run.specs.Ready.{AreReady}
use Rattle.inspector_run.specs.Pieces.{values_in}
use Rattle.inspector_run.proofs.split.counted.Goals as goal

pub run_along-requires-clause-ready : goal.run_along-requires-clause-ready
run_along-requires-clause-ready g c =
    let none : bindings Empty ≡ [] = search (rules, of_env) in
    let R = AreReady c.args.arrays.now c.args.after.now c.args.var in
    subst (R (bindings Empty)) (sym c.tries_in.ensures) (subst (λ e. R e (values_in c.args.piece)) (sym none) c.requires.run.ready)
