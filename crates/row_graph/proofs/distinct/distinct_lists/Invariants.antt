use Rattle.std.proofs.Common.{◌≡◌, map, take}
use Rattle.row_graph.specs.Cut.{IsCut, cut}
use Rattle.row_graph.specs.Distinct.{distinct}
use Rattle.row_graph.proofs.distinct.distinct_lists.Given as goal

abbrev pub invariant-loop-at : goal.invariant-loop-at
invariant-loop-at l =
    (cut l.starts.items l.flat.items ≡ map distinct (take l.at l.lists)) × IsCut l.starts.items l.flat.items
