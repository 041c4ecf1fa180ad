use Rattle.std.proofs.Common.{◌≡◌, ◌<◌, ◌≤◌, ◌∙◌, length, rules, slice_index_or, refl, subst}
use Rattle.std.proofs.lemmas.List.{get_or_default}
use Rattle.wave_base.specs.declared.types.RowId.{RowId}
use Rattle.row_graph.specs.Rows.{row_zero}
use Rattle.row_graph.proofs.Orderly.{rise_more}
use Rattle.row_graph.proofs.rising.do_firsts_rise.Goals as goal

pub loop-pair-preserved : goal.loop-pair-preserved
loop-pair-preserved c =
    let lp = c.loop-pair in
    let ps = c.args.pairs.now in
    let d : RowId × RowId = (row_zero, row_zero) in
    let p : RowId × RowId = slice_index_or ps lp.pair-index d in
    let l : lp.pair-index < length ps = search rules in
    let below : p.1.0 < c.args.n = c.requires lp.pair-index d l in
    let many : length lp.last.items ≡ c.args.n = search rules in
    let at : c.index.result.now ≡ slice_index_or lp.last.items p.1.0 row_zero = c.index.ensures ∙ get_or_default lp.last.items p.1.0 c.index.result.now row_zero (search rules) in
    let above : (slice_index_or lp.last.items p.1.0 row_zero).0 ≤ p.0.0 = subst (λ (r : RowId). r.0 ≤ p.0.0) at c.if-pair-index.false in
    (lp.invariant.0, rise_more c.args.n ps lp.pair-index lp.last.items p d many l refl below above lp.invariant.1)
