use Rattle.std.proofs.Common.{◌≡◌, ◌∙◌, ◌∷◌, sym, subst, true}
use Rattle.std.specs.List.{flat_map, list_any}
use Rattle.loop_core.specs.Shape.{same_array}
use Rattle.inspector_run.specs.Inverses.{Serve}
use Rattle.inspector_run.specs.Ticks.{found_in}
use Rattle.inspector_run.proofs.Sorting.{serve_found, serve_new}
use Rattle.inspector_run.proofs.invert.with_inverse.Goals as goal

pub returns-then-is_found-clause-serves : goal.returns-then-is_found-clause-serves
returns-then-is_found-clause-serves g c =
    let found : list_any (same_array c.args.array) (flat_map found_in c.args.after.now) ≡ true = sym c.is_found.ensures ∙ c.if-is_found.true in
    serve_found c.args.arrays.now c.args.inverses.items c.args.array (flat_map found_in c.args.after.now) found c.requires

pub returns-clause-serves : goal.returns-clause-serves
returns-clause-serves g c =
    subst (λ is. Serve c.args.arrays.now is (c.args.array ∷ flat_map found_in c.args.after.now)) (sym c.in_ok-push.ensures.items)
    (serve_new c.args.arrays.now c.args.inverses.items c.in_ok-inverse.inverse c.args.array (flat_map found_in c.args.after.now) c.in_ok-inverse.ensures.array c.in_ok-inverse.ensures.right c.requires)
