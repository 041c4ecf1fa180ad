use Rattle.std.proofs.Common.{◌∙◌, ◌++◌, ◌∷◌, [], ap, sym, map, arith}
use Rattle.std.specs.List.{range_with_len}
use Rattle.std.proofs.lemmas.List.FromFn.{map-range_with_len_more}
use Rattle.loop_meaning.specs.Weights.{weight}
use Rattle.loop_meaning.proofs.weights.weights.Goals as goal

pub loop-row-preserved : goal.loop-row-preserved
loop-row-preserved c =
    let of = weight c.args.arrays.now c.args.nest.now in
    let row = c.loop-row.row in
    c.in_ok-push.ensures.items
    ∙ ap (λ l. l ++ c.weight_of.result ∷ []) c.loop-row.invariant
    ∙ ap (λ w. map of (range_with_len 0 row) ++ w ∷ []) c.weight_of.ensures
    ∙ sym (map-range_with_len_more of 0 row row (omega arith))
