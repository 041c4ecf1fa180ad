use Rattle.std.proofs.Common.{List, below_more, rules, sym, subst}
use Rattle.wave_base.specs.declared.types.RowId.{RowId}
use Rattle.row_graph.specs.Predecessors.{before}
use Rattle.wait_sparsify.specs.Searched.{SomeBefore}
use Rattle.wait_sparsify.proofs.Searching.{nowhere}
use Rattle.wait_sparsify.proofs.plain.are_joined.Goals as goal

pub loop-row-preserved : goal.loop-row-preserved
loop-row-preserved c =
    below_more _ _ c.loop-row.invariant (λ h. (
    let g = subst (λ (rows : List RowId). SomeBefore rows c.args.firsts.now) (sym c.before-in-loop-row.ensures.rows) h in
    let t = c.some_before.ensures.1 g in
    absurd (search rules)))

pub returns : goal.returns
returns c = (
  λ t. absurd (cc),
  λ w. absurd (nowhere (λ (j : RowId). SomeBefore (before c.args.preds.now j.0) c.args.firsts.now) c.args.seconds.now c.loop-row.row-index c.loop-row-test.false c.loop-row.invariant w.0 w.1 w.2),
)
