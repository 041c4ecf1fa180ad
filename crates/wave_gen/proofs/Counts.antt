-- How many entries lists of lists have, of which the first and the last are shorter than the others.
use Rattle.std.proofs.Common.{◌≡◌, ℕ, zero, suc, ◌+◌, ◌-◌, ◌*◌, ◌<◌, true, false, List, length, ap, ◌∙◌, arith}
use Rattle.std.specs.Prelude.{nat_lt, if◌then◌else◌}
use Rattle.std.specs.List.{flat_map, range_with_len}
use Rattle.std.proofs.lemmas.Bool.Decides.{nat_tests}
use Rattle.std.proofs.lemmas.List.{length-append}
use Rattle.csr_arrays.specs.Axes.{Triple}

-- what all but the last of k lists have besides
abbrev pub more : ℕ → ℕ → ℕ → ℕ
more extra k i = if nat_lt (i + 1) k then extra else 0

pub record Grows (f : ℕ → List Triple) (k first other extra : ℕ) : Type 0 where
  pub at_first : length (f 0) ≡ first + more extra k 0
  pub at_other : (i : ℕ) → 0 < i → i < k → length (f i) ≡ other + more extra k i

one_more : (f : ℕ → List Triple) (i m : ℕ) → length (flat_map f (range_with_len i (suc m))) ≡ length (f i) + length (flat_map f (range_with_len (i + 1) m))
one_more f i m = length-append (f i) (flat_map f (range_with_len (i + 1) m))

times : (m b : ℕ) → suc m * b ≡ m * b + b
times m b = grind arith

later : (f : ℕ → List Triple) (k first other extra : ℕ) → Grows f k first other extra → (m i : ℕ) → 0 < i → i + m ≡ k → length (flat_map f (range_with_len i m)) ≡ m * other + (m - 1) * extra
later f k first other extra h zero i lt e = omega arith
later f k first other extra h (suc zero) i lt e =
    let last : nat_lt (i + 1) k ≡ false = grind (arith, nat_tests) in
    let here = rw last at (h.at_other i lt (omega arith)) in
    one_more f i 0 ∙ omega (arith, here)
later f k first other extra h (suc (suc m)) i lt e =
    let before : nat_lt (i + 1) k ≡ true = grind (arith, nat_tests) in
    let here = rw before at (h.at_other i lt (omega arith)) in
    let next = later f k first other extra h (suc m) (i + 1) (omega arith) (omega arith) in
    let n : suc (suc m) * other ≡ suc m * other + other = times (suc m) other in
    let x : (suc (suc m) - 1) * extra ≡ (suc m - 1) * extra + extra = ap (λ (j : ℕ). j * extra) (omega arith) ∙ times m extra ∙ ap (λ (j : ℕ). j * extra + extra) (omega arith) in
    one_more f i (suc m) ∙ omega (arith, here, next, n, x)

pub all_of : (f : ℕ → List Triple) (q first other extra : ℕ) → Grows f (suc q) first other extra → length (flat_map f (range_with_len 0 (suc q))) ≡ first + q * other + q * extra
all_of f zero first other extra h = one_more f 0 zero ∙ omega (arith, h.at_first)
all_of f (suc p) first other extra h =
    let before : nat_lt (0 + 1) (suc (suc p)) ≡ true = grind (arith, nat_tests) in
    let here = rw before at h.at_first in
    let next = later f (suc (suc p)) first other extra h (suc p) (0 + 1) (omega arith) (omega arith) in
    let x : suc p * extra ≡ (suc p - 1) * extra + extra = times p extra ∙ ap (λ (j : ℕ). j * extra + extra) (omega arith) in
    one_more f 0 (suc p) ∙ omega (arith, here, next, x)
