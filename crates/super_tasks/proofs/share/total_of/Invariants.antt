use Rattle.std.proofs.Common.{◌≡◌, take}
use Rattle.super_tasks.specs.Shares.{weight_of}
use Rattle.super_tasks.proofs.share.total_of.Given as goal

abbrev pub invariant-loop-at : goal.invariant-loop-at
invariant-loop-at l = l.total ≡ weight_of l.weights (take l.at l.rows)
