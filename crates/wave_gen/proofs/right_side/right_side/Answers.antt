use Rattle.std.proofs.Common.{ℤ, ◌++◌, ◌∷◌, [], sym, ap, ◌∙◌, w64, rules, arith, FitsSigned}
use Rattle.std.proofs.lemmas.Int.{to_z-of_z}
use Rattle.std.proofs.lemmas.List.FromFn.{map-range_with_len_more}
use Rattle.wave_gen.specs.RightSide.{row_sum}
use Rattle.wave_gen.proofs.right_side.right_side.Goals as goal

pub loop-row-preserved : goal.loop-row-preserved
loop-row-preserved c =
    let m = c.args.m.now in
    let i = c.loop-row.row in
    let fits : FitsSigned w64 c.row_sum.result = search rules in
    let pushed = simp to_z-of_z at c.in_ok-push.ensures.items in
    pushed ∙ ap (λ (z : ℤ). c.loop-row.sums.items ++ z ∷ []) c.row_sum.ensures
    ∙ ap (λ l. l ++ row_sum m i ∷ []) c.loop-row.invariant ∙ sym (map-range_with_len_more (row_sum m) 0 i i (omega arith))
