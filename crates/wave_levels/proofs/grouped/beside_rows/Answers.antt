use Rattle.std.proofs.Common.{◌++◌, ◌∷◌, ◌∙◌, [], ap, sym, arith}
use Rattle.std.proofs.lemmas.List.FromFn.{map-range_with_len_more}
use Rattle.wave_levels.specs.Levels.{beside}
use Rattle.wave_levels.proofs.grouped.beside_rows.Goals as goal

pub loop-at-preserved : goal.loop-at-preserved
loop-at-preserved c =
    let at = c.loop-at.at in
    let levels = c.args.levels.now in
    let more = map-range_with_len_more (beside levels) 0 at at (omega arith) in
    c.in_ok-push.ensures.items ∙ ap (λ es. es ++ (beside levels at) ∷ []) c.loop-at.invariant ∙ sym more
