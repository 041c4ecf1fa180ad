use Rattle.std.proofs.Common.{◌≡◌, ◌+◌, ◌<◌, ◌∙◌, ℕ, length, get_or, take, arith, ap, sym, rules}
use Rattle.row_graph.specs.Rows.{row_zero}
use Rattle.super_tasks.specs.Shares.{weight_at, weight_of}
use Rattle.super_tasks.proofs.Weighing.{weighed, weight_of-more, weight_of-take_fits}
use Rattle.super_tasks.proofs.plain.weight_before.Goals as goal

pub overflow_add-weight : goal.overflow_add-weight
overflow_add-weight c =
    let weights = c.args.weights.now in
    let rows = c.args.rows.now in
    let at = c.loop-at.at in
    let are = weighed weights rows c.requires.weights c.requires.weighed in
    let l : at < length rows = search rules in
    omega (arith, c.loop-at.invariant, weight_of-more weights rows at row_zero l, weight_of-take_fits weights rows are (at + 1) c.requires.rows)

pub loop-at-preserved : goal.loop-at-preserved
loop-at-preserved c =
    let weights = c.args.weights.now in
    let rows = c.args.rows.now in
    let at = c.loop-at.at in
    let l : at < length rows = search rules in
    ap (λ (n : ℕ). n + weight_at weights (get_or rows at row_zero)) c.loop-at.invariant ∙ sym (weight_of-more weights rows at row_zero l)

pub returns-clause-weight : goal.returns-clause-weight
returns-clause-weight c =
    let end : c.loop-at.at ≡ c.args.place = omega (arith, c.loop-at-test.false, c.loop-at.auto.at-end) in
    c.loop-at.invariant ∙ ap (λ (n : ℕ). weight_of c.args.weights.now (take n c.args.rows.now)) end

pub returns-clause-fits : goal.returns-clause-fits
returns-clause-fits c =
    let weights = c.args.weights.now in
    let rows = c.args.rows.now in
    let are = weighed weights rows c.requires.weights c.requires.weighed in
    omega (arith, c.loop-at.invariant, weight_of-take_fits weights rows are c.loop-at.at c.requires.rows)
