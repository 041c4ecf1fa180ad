-- The weights of rows are from 1 to 2^32.
use Rattle.std.proofs.Common.{ℕ, ◌≡◌, ◌+◌, ◌≤◌, ◌^◌, List, length, map, arith}
use Rattle.std.specs.List.{All, range_with_len}
use Rattle.std.proofs.lemmas.Bool.Decides.{nat_tests}
use Rattle.std.proofs.lemmas.List.Elements.{All-map}
use Rattle.std.proofs.lemmas.List.FromFn.{length-map-range_with_len}
use Rattle.loop_core.specs.declared.nest.Nest.{Nest}
use Rattle.loop_core.specs.Lists.{Lists}
use Rattle.loop_meaning.specs.Weights.{counted, weight, row_weights}
use Rattle.super_tasks.specs.Shares.{IsWeight, AreWeights}

counted_weighs : (many : ℕ) → IsWeight (counted many + 1)
counted_weighs many = (omega (arith, nat_tests), omega (arith, nat_tests))

pub are_weights : (nest : Nest) (a : Lists) → AreWeights a.n (row_weights a nest)
are_weights nest a = (
  length-map-range_with_len (weight a nest) 0 a.n,
  All-map IsWeight (weight a nest) (range_with_len 0 a.n) (λ k d lt. counted_weighs _),
)
