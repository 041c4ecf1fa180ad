-- Binary digits, and where a search in an ascending list ends.
use Rattle.std.proofs.Common.{◌≡◌, ℕ, zero, suc, ◌+◌, ◌/◌, ◌<◌, ◌≤◌, Bool, true, false, cond, ◌⊎◌, inl, inr, [], ◌∷◌, refl, sym, ap, ◌∙◌, arith}
use Rattle.std.proofs.lemmas.Bool.{cases_eq}
use Rattle.inspector_run.specs.Tries.{greatest, last_place}
use Rattle.inspector_run.specs.Ticks.{halvings, digits}

halvings_same : (limit other n : ℕ) → n ≤ limit → n ≤ other → halvings limit n ≡ halvings other n
halvings_same zero zero n l o = refl
halvings_same zero (suc other) zero l o = refl
halvings_same zero (suc other) (suc n) l o = absurd (omega arith)
halvings_same (suc limit) zero zero l o = refl
halvings_same (suc limit) zero (suc n) l o = absurd (omega arith)
halvings_same (suc limit) (suc other) zero l o = refl
halvings_same (suc limit) (suc other) (suc n) l o = ap (λ k. 1 + k) (halvings_same limit other (suc n / 2) (omega arith) (omega arith))

halvings_more : (limit n m : ℕ) → n ≤ m → halvings limit n ≤ halvings limit m
halvings_more zero n m l = omega arith
halvings_more (suc limit) zero m l = omega arith
halvings_more (suc limit) (suc n) zero l = absurd (omega arith)
halvings_more (suc limit) (suc n) (suc m) l = let rest : halvings limit (suc n / 2) ≤ halvings limit (suc m / 2) = halvings_more limit (suc n / 2) (suc m / 2) (omega arith) in omega arith

pub digits_more : (n m : ℕ) → n ≤ m → digits n ≤ digits m
digits_more n m l = omega (arith, halvings_same n m n (omega arith) l, halvings_more m n m l)

-- a number that is at most half of another has a digit less
pub digits_half : (part whole : ℕ) → 0 < whole → part ≤ whole / 2 → digits part + 1 ≤ digits whole
digits_half part zero some half = absurd (omega arith)
digits_half part (suc n) some half =
    let fits : part ≤ n = omega arith in
    let same : digits part ≡ halvings n part = halvings_same part n part (omega arith) fits in
    let more : halvings n part ≤ halvings n (suc n / 2) = halvings_more n part (suc n / 2) half in
    let whole : digits (suc n) ≡ 1 + halvings n (suc n / 2) = refl in
    omega arith

greatest_step : (passes : ℕ → Bool) (n r : ℕ) → r ≤ suc n → ((s : ℕ) → s < r → passes s ≡ true) → ((s : ℕ) → r ≤ s → s < suc n → passes s ≡ false)
    → (r ≤ n → ((s : ℕ) → r ≤ s → s < n → passes s ≡ false) → last_place r ≡ greatest passes n) → last_place r ≡ cond (passes n) (n ∷ []) (greatest passes n)
greatest_step passes n r l low high rest = by (cases_eq r (suc n))
  where
    by : (r ≡ suc n) ⊎ (r ≡ suc n → ⊥) → last_place r ≡ cond (passes n) (n ∷ []) (greatest passes n)
    by (inl e) = ap last_place e ∙ ap (λ b. cond b (n ∷ []) (greatest passes n)) (sym (low n (omega arith)))
    by (inr ne) =
        let within : r ≤ n = omega arith in
        rest within (λ s from below. high s from (omega arith)) ∙ ap (λ b. cond b (n ∷ []) (greatest passes n)) (sym (high n within (omega arith)))

-- where those below r pass and the others fail, the greatest that passes is the one before r
pub greatest_is : (passes : ℕ → Bool) (n r : ℕ) → r ≤ n → ((s : ℕ) → s < r → passes s ≡ true) → ((s : ℕ) → r ≤ s → s < n → passes s ≡ false) → last_place r ≡ greatest passes n
greatest_is passes zero zero l low high = refl
greatest_is passes zero (suc r) l low high = absurd (omega arith)
greatest_is passes (suc n) r l low high = greatest_step passes n r l low high (λ within more. greatest_is passes n r within low more)
