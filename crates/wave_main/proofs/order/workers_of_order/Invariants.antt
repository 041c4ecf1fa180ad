use Rattle.std.proofs.Common.{ℕ, ℤ, ◌≡◌, ◌++◌, ◌<◌, Some, slice_get, drop}
use Rattle.std.specs.List.{All}
use Rattle.wave_main.specs.Orders.{IsNumber, order_numbers}
use Rattle.wave_main.proofs.order.workers_of_order.Given as goal

-- the workers so far and those of the entries left are the whole order, and each entry so far is a worker's number
abbrev pub invariant-loop-place : goal.invariant-loop-place
invariant-loop-place l = record {
  whole : l.order.items ++ order_numbers (drop l.place l.entries) ≡ order_numbers l.entries;
  few : All (λ k. k < l.workers) l.order.items;
  numbers : (k : ℕ) (x : ℤ) → k < l.place → slice_get l.entries k ≡ Some x → IsNumber l.workers x;
}
