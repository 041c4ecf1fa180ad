use Rattle.std.proofs.Common.{◌≡◌, take}
use Rattle.super_tasks.specs.Shares.{weight_of}
use Rattle.super_tasks.proofs.plain.weight_before.Given as goal

abbrev pub invariant-loop-at : goal.invariant-loop-at
invariant-loop-at l = l.weight ≡ weight_of l.weights (take l.at l.rows)
