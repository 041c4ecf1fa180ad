use Rattle.row_graph.proofs.PlainGraph.{GraphSoFar}
use Rattle.row_graph.proofs.plain.predecessors.Given as goal

abbrev pub invariant-loop-row : goal.invariant-loop-row
invariant-loop-row l = GraphSoFar l.pairs l.row l.graph
