use Rattle.std.proofs.Common.{◌≡◌, ◌≤◌, ◌^◌, All, length}
use Rattle.schedule_samples.proofs.weights.valid_weights.Given as goal

abbrev pub invariant-loop-row : goal.invariant-loop-row
invariant-loop-row l = (length l.weights.items ≡ l.row) × All (λ q. (1 ≤ q) × (q ≤ 2 ^ 32)) l.weights.items
