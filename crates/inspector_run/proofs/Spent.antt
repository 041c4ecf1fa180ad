-- Ticks added up.
use Rattle.std.proofs.Common.{ℕ, ◌+◌, ◌*◌, ◌≤◌, arith}

-- an operation that takes e + f ticks, and then w at each of so many visits
pub spent_along : (s t u e f b d visits : ℕ) → t ≤ s + (e + f) → u ≤ t + visits * (b + d) → u ≤ s + (1 + visits) * ((e + b) + (f + d))
spent_along s t u e f b d visits first rest = omega arith

-- an operation before those that take w at each of so many visits and one
pub spent_after : (s t u e f b d visits : ℕ) → t ≤ s + (e + f) → u ≤ t + (1 + visits) * (b + d) → u ≤ s + (1 + visits) * ((e + b) + (f + d))
spent_after s t u e f b d visits first rest = omega arith

pub spent_one : (s t u v w many : ℕ) → t ≤ s + (1 + v) * w → u ≤ t + many * w → u ≤ s + ((1 + v) + many) * w
spent_one s t u v w many first rest = omega arith
