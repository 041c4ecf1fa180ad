use Rattle.std.proofs.Common.{◌-◌, length}
use Rattle.super_tasks.proofs.Sharing.{Sharing}
use Rattle.super_tasks.proofs.share.share_out.Given as goal

abbrev pub invariant-loop-at : goal.invariant-loop-at
invariant-loop-at l = Sharing l.weights l.initial.lists.items l.level l.rows l.at l.before l.lists.items

abbrev pub decreases-loop-at : goal.decreases-loop-at
decreases-loop-at l = length l.initial.rows - l.at
