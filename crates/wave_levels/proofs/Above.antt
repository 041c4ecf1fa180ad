-- The least number above all of a list.
use Rattle.std.proofs.Common.{◌≡◌, ℕ, suc, zero, ◌+◌, ◌<◌, ◌≤◌, ◌++◌, inl, inr, max, List, [], ◌∷◌, length, get_or, arith}
use Rattle.std.proofs.lemmas.Bool.{cases_lt}
use Rattle.wave_levels.specs.Levels.{above}

pub above-at : (xs : List ℕ) (k : ℕ) (d : ℕ) → k < length xs → get_or xs k d < above xs
above-at [] k d h = absurd (omega (arith, h))
above-at (x ∷ xs) zero d h = omega arith
above-at (x ∷ xs) (suc k) d h = let r = above-at xs k d (omega (arith, h)) in omega (arith, r)

-- one less is attained
pub above-attained : (xs : List ℕ) (m : ℕ) → above xs ≡ m + 1 → (k : ℕ) × (k < length xs) × (get_or xs k 0 ≡ m)
above-attained [] m h = absurd (omega (arith, h))
above-attained (x ∷ xs) m h =
    elim (cases_lt m (above xs)) [
      | inl l ↦
          let r = above-attained xs m (omega (arith, h)) in
          (suc r.0, omega (arith, r.1), r.2)
      | inr g ↦ (zero, omega arith, omega (arith, h))
    ]

-- nothing that is above all is below it
pub above-le : (xs : List ℕ) (m : ℕ) → ((k : ℕ) → k < length xs → get_or xs k 0 < m) → above xs ≤ m
above-le [] m h = omega arith
above-le (x ∷ xs) m h =
    let z = h 0 (omega arith) in
    let r = above-le xs m (λ k l. h (suc k) (omega (arith, l))) in
    omega (arith, z, r)

pub above-append : (xs : List ℕ) (y : ℕ) → above (xs ++ y ∷ []) ≡ max (above xs) (y + 1)
above-append [] y = omega arith
above-append (x ∷ xs) y = let r = above-append xs y in omega (arith, r)

-- where none of the first rows has the greatest level, there are more rows
pub none_of_level : (levels : List ℕ) (level at : ℕ) → above levels ≡ level + 1 → length levels ≤ at → ((k : ℕ) → k < at → get_or levels k 0 ≡ level → ⊥) → ⊥
none_of_level levels level at e l none =
    let a = above-attained levels level e in
    none a.0 (omega (arith, a.1, l)) a.2
