use Rattle.std.proofs.Common.{◌≡◌}
use Rattle.std.specs.Prelude.{vec_len}
use Rattle.row_graph.proofs.Orderly.{RiseFrom}
use Rattle.row_graph.proofs.rising.do_firsts_rise.Given as goal

-- where the pairs that are left go on rising from the last first rows, all rise
abbrev pub invariant-loop-pair : goal.invariant-loop-pair
invariant-loop-pair l = (vec_len l.last ≡ l.n) × RiseFrom l.n l.pairs l.pair-index l.last.items
