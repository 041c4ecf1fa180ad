-- What holds of each element of a list.
use Rattle.std.proofs.Common.{◌≡◌, ℕ, zero, suc, ◌<◌, Bool, true, false, if◌then◌else◌, List, [], ◌∷◌, length, get_or, take, refl, subst, arith}
use Rattle.std.specs.Prelude.{Contains}
use Rattle.std.specs.List.{filter}

abbrev pub Each : {A : Type 0} → (A → Type 0) → List A → Type 0
Each P [] = Unit {0}
Each P (x ∷ xs) = P x × Each P xs

pub of_each : {A : Type 0} (P : A → Type 0) (xs : List A) → ((x : A) → Contains xs x → P x) → Each P xs
of_each P [] h = tt
of_each P (x ∷ xs) h = (h x (0, omega arith, refl), of_each P xs (λ y i. let l = i.1 in h y (suc i.0, omega arith, i.2)))

pub each_take : {A : Type 0} (P : A → Type 0) (n : ℕ) (xs : List A) → Each P xs → Each P (take n xs)
each_take P zero xs h = tt
each_take P (suc n) [] h = tt
each_take P (suc n) (x ∷ xs) h = (h.0, each_take P n xs h.1)

-- those that are filtered
pub each_filter : {A : Type 0} (P : A → Type 0) (q : A → Bool) (xs : List A) → Each P xs → Each P (filter q xs)
each_filter P q [] h = tt
each_filter P q (x ∷ xs) h = by (q x) (each_filter P q xs h.1)
  where
    by : (b : Bool) → Each P (filter q xs) → Each P (if b then x ∷ filter q xs else filter q xs)
    by true rest = (h.0, rest)
    by false rest = rest

pub each_of : {A : Type 0} (P : A → Type 0) (xs : List A) (x : A) → Each P xs → Contains xs x → P x
each_of P xs x all i = at xs i.0 all i.1 i.2
  where
    at : (ys : List _) (k : ℕ) → Each P ys → k < length ys → get_or ys k x ≡ x → P x
    at [] k all l e = absurd (omega arith)
    at (y ∷ ys) zero all l e = subst P e all.0
    at (y ∷ ys) (suc k) all l e = at ys k all.1 (omega arith) e

-- what is filtered stands in the list
pub in_filtered : {A : Type 0} (q : A → Bool) (xs : List A) (x : A) → Contains (filter q xs) x → Contains xs x
in_filtered q xs x i = each_of (Contains xs) (filter q xs) x (each_filter (Contains xs) q xs (of_each (Contains xs) xs (λ y j. j))) i
