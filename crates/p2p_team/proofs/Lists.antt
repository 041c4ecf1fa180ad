-- Lists that are gone through while another one grows.
use Rattle.std.proofs.Common.{◌≡◌, ◌≢◌, ℕ, suc, ◌+◌, ◌<◌, ◌≤◌, List, ◌∷◌, length, slice_index_or, slice_set, below_more, sym, ap, subst, ⊎_elim, arith}
use Rattle.std.proofs.lemmas.Bool.{cases_lt}
use Rattle.std.proofs.lemmas.List.{get_or-set_same, get_or-set_other}
use Rattle.std.specs.List.{SameBelow}

-- of each place below n of a list, counted from a
abbrev pub HoldsFrom : {X : Type 0} → (ℕ → X → Type 0) → ℕ → List X → ℕ → Type 0
HoldsFrom {X} P a xs n = (k : ℕ) (d : X) → k < n → P (a + k) (slice_index_or xs k d)

-- of each place below n of a list
abbrev pub HoldsBelow : {X : Type 0} → (ℕ → X → Type 0) → List X → ℕ → Type 0
HoldsBelow {X} P xs n = (k : ℕ) (d : X) → k < n → P k (slice_index_or xs k d)

pub first_holds : {X : Type 0} (P : ℕ → X → Type 0) (a : ℕ) (xs ys : List X) (n m : ℕ) (x : X) → xs ≡ x ∷ ys → m + 1 ≡ n → HoldsFrom P a xs n → P a x
first_holds {X} P a xs ys n m x e l h =
    let here : a + 0 ≡ a = omega arith in
    subst (λ (i : ℕ). P i x) here (subst (P (a + 0)) (ap (λ (z : List X). slice_index_or z 0 x) e) (h 0 x (omega arith)))

pub rest_holds : {X : Type 0} (P : ℕ → X → Type 0) (a b : ℕ) (xs ys : List X) (n m : ℕ) (x : X) → b ≡ a + 1 → xs ≡ x ∷ ys → m + 1 ≡ n → HoldsFrom P a xs n → HoldsFrom P b ys m
rest_holds {X} P a b xs ys n m x more e l h k d low =
    let next : a + suc k ≡ b + k = omega arith in
    subst (λ (i : ℕ). P i (slice_index_or ys k d)) next (subst (P (a + suc k)) (ap (λ (z : List X). slice_index_or z (suc k) d) e) (h (suc k) d (omega arith)))

-- where one more stands at the place a, what holds at each place below a and of it holds below b
pub one_more_holds : {X : Type 0} (P : ℕ → X → Type 0) (a b : ℕ) (xs ys : List X) (y : X) → b ≡ a + 1 → SameBelow xs ys a → ((d : X) → slice_index_or ys a d ≡ y)
    → HoldsBelow P xs a → P a y → HoldsBelow P ys b
one_more_holds P a b xs ys y more same there before here k d low =
    below_more (λ i. P i (slice_index_or ys i d)) a (λ i below. subst (P i) (sym (same i d below)) (before i d below)) (subst (P a) (sym (there d)) here) k (omega arith)

-- where y is set at the place a of a list

pub other_holds : {X : Type 0} (P : ℕ → X → Type 0) (xs : List X) (a : ℕ) (y : X) (k : ℕ) (d : X) → k ≢ a → P k (slice_index_or xs k d) → P k (slice_index_or (slice_set xs a y) k d)
other_holds P xs a y k d other h = subst (P k) (sym (get_or-set_other xs a k y d other)) h

pub same_holds : {X : Type 0} (P : ℕ → X → Type 0) (xs : List X) (a : ℕ) (y : X) (k : ℕ) (d : X) → k ≡ a → a < length xs → P a y → P k (slice_index_or (slice_set xs a y) k d)
same_holds P xs a y k d here within h =
    subst (λ (i : ℕ). P i (slice_index_or (slice_set xs a y) i d)) (sym here) (subst (P a) (sym (get_or-set_same xs a y d within)) h)

pub set_holds : {X : Type 0} (P : ℕ → X → Type 0) (xs : List X) (a : ℕ) (y : X) (n : ℕ) → a < length xs → HoldsBelow P xs n → P a y → HoldsBelow P (slice_set xs a y) n
set_holds P xs a y n within all h k d low = ⊎_elim
    (λ (before : k < a). other_holds P xs a y k d (omega arith) (all k d low))
    (λ (from : a ≤ k). ⊎_elim
    (λ (after : a < k). other_holds P xs a y k d (omega arith) (all k d low))
    (λ (here : k ≤ a). same_holds P xs a y k d (omega arith) within h)
    (cases_lt a k))
    (cases_lt k a)

pub set_more : {X : Type 0} (P : ℕ → X → Type 0) (xs : List X) (a : ℕ) (y : X) → a < length xs → HoldsBelow P xs a → P a y → HoldsBelow P (slice_set xs a y) (a + 1)
set_more P xs a y within all h k d low = ⊎_elim
    (λ (before : k < a). other_holds P xs a y k d (omega arith) (all k d before))
    (λ (from : a ≤ k). same_holds P xs a y k d (omega arith) within h)
    (cases_lt k a)
