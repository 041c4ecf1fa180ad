use Rattle.std.proofs.Common.{◌<◌, ℕ}
use Rattle.wait_sparsify.specs.Searched.{IsBetween}
use Rattle.wait_sparsify.proofs.plain.has_between.Given as goal

abbrev pub invariant-loop-between : goal.invariant-loop-between
invariant-loop-between l = (m : ℕ) → m < l.between → IsBetween l.cross l.owners l.first l.second m → ⊥
