use Rattle.std.proofs.Common.{◌+◌, ◌<◌, ◌∙◌, ℕ, inl, inr, get_or, take, arith, ap, sym, subst}
use Rattle.std.proofs.lemmas.Bool.{cases_eq}
use Rattle.row_graph.specs.Rows.{row_zero}
use Rattle.super_tasks.specs.Shares.{weight_at, weight_of}
use Rattle.super_tasks.proofs.Weighing.{weighed, place_within, weight_of-more, weight_of-take_fits}
use Rattle.super_tasks.proofs.share.end_of.Goals as goal

pub bounds-rows-at : goal.bounds-rows-at
bounds-rows-at c =
    let inv = c.loop-before.invariant in
    place_within c.args.weights.now c.args.rows.now c.loop-before.at c.args.limit (omega (arith, inv.weighs, c.loop-before-test.true)) c.requires.limit

pub overflow_add-before : goal.overflow_add-before
overflow_add-before c =
    let weights = c.args.weights.now in
    let rows = c.args.rows.now in
    let at = c.loop-before.at in
    let are = weighed weights rows c.requires.weights c.requires.weighed in
    let l = place_within weights rows at c.args.limit (omega (arith, c.loop-before.invariant.weighs, c.loop-before-test.true)) c.requires.limit in
    omega (arith, c.loop-before.invariant.weighs, weight_of-more weights rows at row_zero l, weight_of-take_fits weights rows are (at + 1) c.requires.rows)

pub loop-before-preserved : goal.loop-before-preserved
loop-before-preserved c =
    let weights = c.args.weights.now in
    let rows = c.args.rows.now in
    let at = c.loop-before.at in
    let limit = c.args.limit in
    let inv = c.loop-before.invariant in
    let l = place_within weights rows at limit (omega (arith, inv.weighs, c.loop-before-test.true)) c.requires.limit in
    record {
      from = omega (arith, inv.from);
      within = omega (arith, l);
      weighs = ap (λ (n : ℕ). n + weight_at weights (get_or rows at row_zero)) inv.weighs ∙ sym (weight_of-more weights rows at row_zero l);
      passed = λ s a b. elim (cases_eq s at) as (λ _. weight_of weights (take s rows) < limit) [
        | inl e ↦ subst (λ (k : ℕ). weight_of weights (take k rows) < limit) (sym e) (omega (arith, inv.weighs, c.loop-before-test.true))
        | inr ne ↦ inv.passed s a (omega (arith, b, ne))
      ];
    }

pub returns-clause-further : goal.returns-clause-further
returns-clause-further c =
    let at = c.loop-before.at in
    let start = c.args.start.at in
    elim (cases_eq at start) as (λ _. start < at) [
      | inl e ↦
          let q = ap (λ (n : ℕ). weight_of c.args.weights.now (take n c.args.rows.now)) e in
          absurd (omega (arith, c.loop-before.invariant.weighs, q, c.requires.before, c.requires.short, c.loop-before-test.false))
      | inr ne ↦ omega (arith, c.loop-before.invariant.from, ne)
    ]
