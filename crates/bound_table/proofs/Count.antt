-- How many numbers below a bound pass a test.
use Rattle.std.proofs.Common.{ℕ, zero, suc, ◌<◌, ◌≤◌, ◌+◌, ◌≡◌, inl, inr, arith, Bool, true, false, cond, refl}
use Rattle.std.proofs.lemmas.Bool.{cases_eq}
use Rattle.bound_table.specs.Rows.{count}

one_le : (b : Bool) → cond b 1 0 ≤ 1
one_le true = omega arith
one_le false = omega arith

pub count-le : (f : ℕ → Bool) (n : ℕ) → count f n ≤ n
count-le f zero = omega arith
count-le f (suc n) = let h = count-le f n in let g = one_le (f n) in omega arith

one_more : (b c : Bool) → (b ≡ true → c ≡ true) → cond b 1 0 ≤ cond c 1 0
one_more true true h = omega arith
one_more true false h = absurd (let e : false ≡ true = h refl in cc)
one_more false true h = omega arith
one_more false false h = omega arith

pub count-more : (f g : ℕ → Bool) (n : ℕ) → ((k : ℕ) → k < n → f k ≡ true → g k ≡ true) → count f n ≤ count g n
count-more f g zero h = omega arith
count-more f g (suc n) h =
    let i = count-more f g n (λ k l. h k (omega arith)) in
    let j = one_more (f n) (g n) (h n (omega arith)) in
    omega arith

one_two : (b c d : Bool) → (b ≡ true → d ≡ true) → (c ≡ true → d ≡ true) → (b ≡ true → c ≡ true → ⊥) → cond b 1 0 + cond c 1 0 ≤ cond d 1 0
one_two true true d h g n = absurd (n refl refl)
one_two true false true h g n = omega arith
one_two true false false h g n = absurd (let e : false ≡ true = h refl in cc)
one_two false true true h g n = omega arith
one_two false true false h g n = absurd (let e : false ≡ true = g refl in cc)
one_two false false true h g n = omega arith
one_two false false false h g n = omega arith

-- two tests that are never both passed, and of which each gives a third
pub count-two : (f g h : ℕ → Bool) (n : ℕ) → ((k : ℕ) → k < n → f k ≡ true → h k ≡ true) → ((k : ℕ) → k < n → g k ≡ true → h k ≡ true) → ((k : ℕ) → k < n → f k ≡ true → g k ≡ true → ⊥) → count f n + count g n ≤ count h n
count-two f g h zero p q r = omega arith
count-two f g h (suc n) p q r =
    let i = count-two f g h n (λ k l. p k (omega arith)) (λ k l. q k (omega arith)) (λ k l. r k (omega arith)) in
    let j = one_two (f n) (g n) (h n) (p n (omega arith)) (q n (omega arith)) (r n (omega arith)) in
    omega arith

pub count-has : (f : ℕ → Bool) (n k : ℕ) → k < n → f k ≡ true → 1 ≤ count f n
count-has f zero k l h = absurd (omega arith)
count-has f (suc n) k l h = elim (cases_eq k n) [
  | inl e ↦ (let g : f n ≡ true = rw (← e) h in rw g (omega arith))
  | inr ne ↦ (let i = count-has f n k (omega arith) h in omega arith)
]
