-- Members of lists.
use Rattle.std.proofs.Common.{◌≡◌, ◌⊎◌, inl, inr, Bool, true, false, ◌&&◌, cond, List, [], ◌∷◌, ◌++◌, refl, sym, ◌∙◌, subst, arith}
use Rattle.std.specs.List.{Contains, flat_map, list_all}
use Rattle.std.proofs.lemmas.List.Elements.{Contains-append_left, Contains-append_right, Contains-append_cases, Contains-push_cases}
use Rattle.std.proofs.lemmas.List.Folds.{list_all-append}

pub both : (s t : Bool) → (s && t) ≡ true → (s ≡ true) × (t ≡ true)
both true t e = (refl, e)
both false t e = absurd (cc)

pub and_true : (s t : Bool) → s ≡ true → t ≡ true → (s && t) ≡ true
and_true true t e f = f
and_true false t e f = absurd (cc)

pub parts : {X : Type 0} (p : X → Bool) (xs ys : List X) → list_all p (xs ++ ys) ≡ true → (list_all p xs ≡ true) × (list_all p ys ≡ true)
parts p xs ys e = both (list_all p xs) (list_all p ys) (sym (list_all-append p xs ys) ∙ e)

pub none : {X : Type 0} (x : X) → Contains [] x → ⊥
none x h = absurd (omega (arith, h.1))

pub one : {X : Type 0} (x y : X) → Contains (x ∷ []) y → x ≡ y
one x y h = by (Contains-push_cases [] x y h)
  where
    by : Contains [] y ⊎ (x ≡ y) → x ≡ y
    by (inl c) = absurd (none y c)
    by (inr e) = e

pub cons_cases : {X : Type 0} (x : X) (xs : List X) (y : X) → Contains (x ∷ xs) y → (x ≡ y) ⊎ Contains xs y
cons_cases x xs y h = by (Contains-append_cases (x ∷ []) xs y h)
  where
    by : Contains (x ∷ []) y ⊎ Contains xs y → (x ≡ y) ⊎ Contains xs y
    by (inl c) = inl (one x y c)
    by (inr c) = inr c

pub here : {X : Type 0} (x : X) (xs : List X) → Contains (x ∷ xs) x
here x xs = (0, omega arith, refl)

pub there : {X : Type 0} (x : X) (xs : List X) (y : X) → Contains xs y → Contains (x ∷ xs) y
there x xs y h = Contains-append_right (x ∷ []) xs y h

pub in_flat : {X Y : Type 0} (f : X → List Y) (xs : List X) (x : X) (y : Y) → Contains xs x → Contains (f x) y → Contains (flat_map f xs) y
in_flat f [] x y h c = absurd (none x h)
in_flat {X} {Y} f (z ∷ xs) x y h c = by (cons_cases z xs x h) (λ g. in_flat f xs x y g c)
  where
    by : (z ≡ x) ⊎ Contains xs x → (Contains xs x → Contains (flat_map f xs) y) → Contains (f z ++ flat_map f xs) y
    by (inl e) rest = Contains-append_left (f z) (flat_map f xs) y (subst (λ w. Contains (f w) y) (sym e) c)
    by (inr g) rest = Contains-append_right (f z) (flat_map f xs) y (rest g)

pub from_flat : {X Y : Type 0} (f : X → List Y) (xs : List X) (y : Y) → Contains (flat_map f xs) y → (x : X) × Contains xs x × Contains (f x) y
from_flat f [] y h = absurd (none y h)
from_flat {X} {Y} f (z ∷ xs) y h = by (Contains-append_cases (f z) (flat_map f xs) y h) (from_flat f xs y)
  where
    by : Contains (f z) y ⊎ Contains (flat_map f xs) y → (Contains (flat_map f xs) y → (x : X) × Contains xs x × Contains (f x) y) → (x : X) × Contains (z ∷ xs) x × Contains (f x) y
    by (inl c) rest = (z, here z xs, c)
    by (inr g) rest = let t = rest g in (t.0, there z xs t.0 t.1, t.2)

-- a member under a test
pub kept : {X : Type 0} (b : Bool) (x : X) → b ≡ true → Contains (cond b (x ∷ []) []) x
kept true x e = here x []
kept false x e = absurd (cc)

pub kept_is : {X : Type 0} (b : Bool) (x y : X) → Contains (cond b (x ∷ []) []) y → (b ≡ true) × (x ≡ y)
kept_is true x y h = (refl, one x y h)
kept_is false x y h = absurd (none y h)
