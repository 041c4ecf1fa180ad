use Rattle.std.proofs.Common.{◌≡◌, ◌+◌, ◌<◌, ◌^◌, ◌++◌, All, replicate}
use Rattle.std.specs.List.{range_with_len}
use Rattle.wait_sparsify.proofs.numbered.push_seats.Given as goal

abbrev pub invariant-loop-at : goal.invariant-loop-at
invariant-loop-at l =
    record {
      owners : l.seats.owners.items ≡ l.initial.seats.owners.items ++ replicate l.at l.worker;
      places : l.seats.places.items ≡ l.initial.seats.places.items ++ range_with_len 0 l.at;
      small_owners : All (λ w. w + 1 < 2 ^ 32) l.initial.seats.owners.items → All (λ w. w + 1 < 2 ^ 32) l.seats.owners.items;
      small_places : All (λ p. p + 1 < 2 ^ 32) l.initial.seats.places.items → All (λ p. p + 1 < 2 ^ 32) l.seats.places.items;
    }
