use Rattle.std.proofs.Common.{◌≡◌, ◌+◌, ◌<◌, ◌^◌, ◌++◌, All, drop}
use Rattle.wait_sparsify.specs.Numbered.{owners_from, places_from}
use Rattle.wait_sparsify.proofs.numbered.seats_of.Given as goal

abbrev pub invariant-loop-worker : goal.invariant-loop-worker
invariant-loop-worker l =
    record {
      owners : l.seats.owners.items ++ owners_from l.worker (drop l.worker l.lists) ≡ owners_from 0 l.lists;
      places : l.seats.places.items ++ places_from (drop l.worker l.lists) ≡ places_from l.lists;
      small_owners : All (λ w. w + 1 < 2 ^ 32) l.seats.owners.items;
      small_places : All (λ p. p + 1 < 2 ^ 32) l.seats.places.items;
    }
