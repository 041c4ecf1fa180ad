use Rattle.row_graph.proofs.Parts.{sum_by-cut}
use Rattle.row_graph.proofs.lists.Lists.total.Goals as goal

pub returns : goal.returns
returns c = let e = sum_by-cut _ _ c.self.invariant in cc
