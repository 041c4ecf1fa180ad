use Rattle.std.proofs.Common.{◌+◌, ◌<◌, ◌∙◌, ℕ, length, get_or, arith, ap, sym, rules}
use Rattle.row_graph.specs.Rows.{row_zero}
use Rattle.super_tasks.specs.Shares.{weight_at}
use Rattle.super_tasks.proofs.Weighing.{weighed, weight_of-all, weight_of-more, weight_of-take_fits}
use Rattle.super_tasks.proofs.share.total_of.Goals as goal

pub overflow_add-total : goal.overflow_add-total
overflow_add-total c =
    let weights = c.args.weights.now in
    let rows = c.args.rows.now in
    let at = c.loop-at.at in
    let are = weighed weights rows c.requires.weights c.requires.weighed in
    let l : at < length rows = search rules in
    omega (arith, c.loop-at.invariant, weight_of-more weights rows at row_zero l, weight_of-take_fits weights rows are (at + 1) c.requires.rows)

pub loop-at-preserved : goal.loop-at-preserved
loop-at-preserved c =
    let weights = c.args.weights.now in
    let rows = c.args.rows.now in
    let at = c.loop-at.at in
    let l : at < length rows = search rules in
    ap (λ (n : ℕ). n + weight_at weights (get_or rows at row_zero)) c.loop-at.invariant ∙ sym (weight_of-more weights rows at row_zero l)

pub returns : goal.returns
returns c = c.loop-at.invariant ∙ weight_of-all c.args.weights.now c.args.rows.now c.loop-at.at c.loop-at-test.false
