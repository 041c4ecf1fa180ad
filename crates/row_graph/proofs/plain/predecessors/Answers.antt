use Rattle.std.proofs.Common.{◌≡◌, ◌+◌, ℕ, List, sym, subst, arith, rules}
use Rattle.wave_base.specs.declared.types.RowId.{RowId}
use Rattle.row_graph.specs.Rows.{row}
use Rattle.row_graph.specs.Predecessors.{AreRowsBefore}
use Rattle.row_graph.proofs.PlainGraph.{GraphSoFar, graph_more, plain_predecessors, plain_graph}
use Rattle.row_graph.proofs.plain.predecessors.Goals as goal

pub loop-row-preserved : goal.loop-row-preserved
loop-row-preserved c =
    let pairs = c.args.pairs.now in
    let at = c.loop-row.row in
    let more = c.as_slice.result.now in
    let rows_are = subst (AreRowsBefore pairs (row at)) (sym c.as_slice.ensures.value) c.in_ok-before.ensures in
    subst (λ (graph : List (List RowId)). GraphSoFar pairs (at + 1) graph) (sym c.in_ok-graph-2.ensures) (graph_more pairs at c.loop-row.graph more c.loop-row.invariant rows_are)

pub invariant_of-result : goal.invariant_of-result
invariant_of-result c =
    let e : c.loop-row.row ≡ c.args.n = omega arith in
    plain_graph c.args.pairs.now c.args.n c.loop-row.graph c.requires.earlier c.requires.rows (subst (λ (n : ℕ). GraphSoFar c.args.pairs.now n c.loop-row.graph) e c.loop-row.invariant) (search rules)

pub returns : goal.returns
returns c =
    let e : c.loop-row.row ≡ c.args.n = omega arith in
    plain_predecessors c.args.pairs.now c.args.n c.loop-row.graph c.requires.earlier c.requires.rows (subst (λ (n : ℕ). GraphSoFar c.args.pairs.now n c.loop-row.graph) e c.loop-row.invariant)
