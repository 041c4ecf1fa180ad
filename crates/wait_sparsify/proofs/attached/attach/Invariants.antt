use Rattle.std.proofs.Common.{◌≡◌, ◌++◌, drop}
use Rattle.wait_sparsify.specs.Attached.{attached}
use Rattle.wait_sparsify.proofs.attached.attach.Given as goal

abbrev pub invariant-loop-worker : goal.invariant-loop-worker
invariant-loop-worker l =
    l.workers.items ++ attached l.seats.owners.items l.seats.places.items l.kept l.number (drop l.worker l.lists) ≡ attached l.seats.owners.items l.seats.places.items l.kept 0 l.lists
