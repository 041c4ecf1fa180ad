use Rattle.std.proofs.Common.{◌≡◌, ◌+◌, ◌++◌, drop}
use Rattle.wait_sparsify.specs.Attached.{attached_list}
use Rattle.wait_sparsify.proofs.attached.attach_list.Given as goal

abbrev pub invariant-loop-at : goal.invariant-loop-at
invariant-loop-at l =
    l.list ++ attached_list l.seats.owners.items l.seats.places.items l.kept (l.number + l.at) (drop l.at l.tasks) ≡ attached_list l.seats.owners.items l.seats.places.items l.kept l.number l.tasks
