use Rattle.std.proofs.Common.{ℕ, ◌≡◌, length}
use Rattle.prop_check.specs.Segments.{known}
use Rattle.prop_check.proofs.skips.own_places.Given as goal

abbrev pub invariant-loop-place : goal.invariant-loop-place
invariant-loop-place l = (length l.places.items ≡ l.place) × ((k : ℕ) → known l.places.items k ≡ k)
