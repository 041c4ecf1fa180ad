use Rattle.row_graph.proofs.PlainGraph.{RowsSoFar}
use Rattle.row_graph.proofs.plain.rows_before.Given as goal

abbrev pub invariant-loop-first : goal.invariant-loop-first
invariant-loop-first l = RowsSoFar l.pairs l.row l.first l.rows.items
