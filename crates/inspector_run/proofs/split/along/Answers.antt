use Rattle.std.proofs.Common.{◌≡◌, flat_map, vec_items, sym, ap, ◌∙◌, subst}
use Rattle.std.specs.List.{All}
use Rattle.rayon.proofs.ListFacts.{IfOk-then}
use Rattle.inspector_run.specs.Pieces.{values_in, piece_pairs, MayRun}
use Rattle.inspector_run.proofs.Parts.{may_run_each, pairs_in_all}
use Rattle.inspector_run.proofs.split.along.Goals as goal

pub lists_of-requires-after_bounds : goal.lists_of-requires-after_bounds
lists_of-requires-after_bounds g c κs within =
    let a = c.args.arrays.now in
    let after = c.args.outer.after.now in
    let pieces = c.in_ok-pieces.pieces.items in
    let parts : flat_map values_in pieces ≡ values_in c.args.whole = c.in_ok-pieces.ensures {u = tt} in
    subst (All (MayRun a c.args.inverses.now after c.args.outer.var)) (sym c.as_slice.ensures.value) (may_run_each a c.args.inverses.now after c.args.outer.var pieces c.args.whole parts c.requires.run)

pub returns : goal.returns
returns g c =
    let of_piece = piece_pairs c.args.arrays.now c.args.outer.after.now c.args.outer.var in
    let parts : flat_map values_in c.in_ok-pieces.pieces.items ≡ values_in c.args.whole = c.in_ok-pieces.ensures {u = tt} in
    let lists : flat_map vec_items c.in_ok-lists.lists.items ≡ flat_map of_piece c.as_slice.result.now = c.in_ok-lists.ensures {u = tt} in
    IfOk-then c.joined.result _ _ c.joined.ensures (λ all h.
    h ∙ ap (flat_map vec_items) c.as_slice-2.ensures.value ∙ lists ∙ ap (flat_map of_piece) c.as_slice.ensures.value
    ∙ pairs_in_all c.args.arrays.now c.args.outer.after.now c.args.outer.var c.in_ok-pieces.pieces.items c.args.whole parts)
