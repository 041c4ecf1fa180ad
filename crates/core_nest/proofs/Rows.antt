-- The rows of a nest by their numbers.
use Rattle.std.proofs.Common.{◌≡◌, ℕ, zero, suc, ◌+◌, ◌<◌, List, [], length, get_or, refl, ap, ◌∙◌, arith}
use Rattle.core_rows.specs.Deeds.{Deed}
use Rattle.core_nest.specs.Nested.{rows_from}

pub rows_long : (n b : ℕ) (row : ℕ → List Deed) → length (rows_from n b row) ≡ n
rows_long zero b row = refl
rows_long (suc n) b row = ap suc (rows_long n (suc b) row)

pub rows_get : (n b i : ℕ) (row : ℕ → List Deed) → i < n → get_or (rows_from n b row) i [] ≡ row (b + i)
rows_get zero b i row l = absurd (omega arith)
rows_get (suc n) b zero row l = let e : b ≡ b + 0 = omega arith in ap row e
rows_get (suc n) b (suc i) row l = let e : suc b + i ≡ b + suc i = omega arith in rows_get n (suc b) i row (omega arith) ∙ ap row e
