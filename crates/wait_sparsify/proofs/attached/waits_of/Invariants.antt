use Rattle.std.proofs.Common.{◌≡◌, ◌++◌, drop}
use Rattle.wait_sparsify.specs.Attached.{waits_for}
use Rattle.wait_sparsify.proofs.attached.waits_of.Given as goal

abbrev pub invariant-loop-task : goal.invariant-loop-task
invariant-loop-task l =
    l.waits ++ waits_for l.seats.owners.items l.seats.places.items (drop l.task-index l.tasks) ≡ waits_for l.seats.owners.items l.seats.places.items l.tasks
