use Rattle.std.proofs.Common.{◌≡◌, ◌≤◌, ◌-◌, drop, length}
use Rattle.array_bind.specs.Shape.{length_fault}
use Rattle.array_bind.proofs.shape.length_fault.Given as goal

abbrev pub invariant-loop-at : goal.invariant-loop-at
invariant-loop-at l = (length_fault l.n l.nnz l.at (drop l.at l.sizes) (drop l.at l.files) ≡ length_fault l.n l.nnz 0 l.sizes l.files) × (l.at ≤ length l.files)

abbrev pub decreases-loop-at : goal.decreases-loop-at
decreases-loop-at l = length l.files - l.at
