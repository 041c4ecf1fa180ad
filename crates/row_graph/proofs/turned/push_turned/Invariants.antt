use Rattle.std.proofs.Common.{◌≡◌, ◌++◌, map, take}
use Rattle.row_graph.proofs.turned.push_turned.Given as goal

abbrev pub invariant-loop-row : goal.invariant-loop-row
invariant-loop-row l = l.into.items ≡ l.initial.into.items ++ map (λ r. (r.0, l.number)) (take l.row-index l.rows)
