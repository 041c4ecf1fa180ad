-- Members of lists that are mapped, filtered and counted.
use Rattle.std.proofs.Common.{◌≡◌, ◌⊎◌, inl, inr, ℕ, zero, suc, ◌<◌, ℤ, pos, negsuc, ◌+ℤ◌, ◌≤ℤ◌, Bool, true, false, cond, List, [], ◌∷◌, map, refl, sym, ap, ◌∙◌, subst, arith}
use Rattle.std.specs.Prelude.{◌-ℤ◌, if◌then◌else◌}
use Rattle.std.specs.Int.Signed.{◌<ℤ◌}
use Rattle.std.specs.List.{Contains, filter, range_with_len}
use Rattle.std.proofs.lemmas.Int.{ints}
use Rattle.std.proofs.lemmas.Bool.{cases_eq}
use Rattle.std.proofs.lemmas.List.Elements.{All-contains, All-contains_itself, All-filter, filter_passes}
use Rattle.std.proofs.lemmas.List.FromFn.{length-range_with_len, get_or-range_with_len}
use Rattle.loop_core.specs.Instances.{natural, trips}
use Rattle.dep_extract.proofs.Members.{none, cons_cases, here, there}
use Rattle.inspector_run.specs.Tries.{numbers, numbers_between, greatest}

pub known_or : (b : Bool) (P : Bool → Type 0) → (b ≡ true → P true) → (b ≡ false → P false) → P b
known_or true P f g = f refl
known_or false P f g = g refl

-- mapped

pub in_map : {X Y : Type 0} (f : X → Y) (xs : List X) (x : X) → Contains xs x → Contains (map f xs) (f x)
in_map f [] x h = absurd (none x h)
in_map {X} {Y} f (z ∷ xs) x h = by (cons_cases z xs x h) (in_map f xs x)
  where
    by : (z ≡ x) ⊎ Contains xs x → (Contains xs x → Contains (map f xs) (f x)) → Contains (f z ∷ map f xs) (f x)
    by (inl e) rest = subst (λ y. Contains (f z ∷ map f xs) y) (ap f e) (here (f z) (map f xs))
    by (inr c) rest = there (f z) (map f xs) (f x) (rest c)

pub from_map : {X Y : Type 0} (f : X → Y) (xs : List X) (y : Y) → Contains (map f xs) y → (x : X) × Contains xs x × (f x ≡ y)
from_map f [] y h = absurd (none y h)
from_map {X} {Y} f (z ∷ xs) y h = by (cons_cases (f z) (map f xs) y h) (from_map f xs y)
  where
    by : (f z ≡ y) ⊎ Contains (map f xs) y → (Contains (map f xs) y → (x : X) × Contains xs x × (f x ≡ y)) → (x : X) × Contains (z ∷ xs) x × (f x ≡ y)
    by (inl e) rest = (z, here z xs, e)
    by (inr c) rest = let t = rest c in (t.0, there z xs t.0 t.1, t.2)

-- filtered

module _ {X : Type 0} (p : X → Bool) where
  keep : (b : Bool) (x : X) (xs : List X) (y : X) → Contains xs y → Contains (cond b (x ∷ xs) xs) y
  keep true x xs y h = there x xs y h
  keep false x xs y h = h

  pub in_filter : (xs : List X) (x : X) → Contains xs x → p x ≡ true → Contains (filter p xs) x
  in_filter [] x h e = absurd (none x h)
  in_filter (z ∷ xs) x h e = by (cons_cases z xs x h) (λ c. in_filter xs x c e)
    where
      by : (z ≡ x) ⊎ Contains xs x → (Contains xs x → Contains (filter p xs) x) → Contains (cond (p z) (z ∷ filter p xs) (filter p xs)) x
      by (inl s) rest =
          subst (λ b. Contains (cond b (z ∷ filter p xs) (filter p xs)) x) (sym (ap p s ∙ e))
          (subst (Contains (z ∷ filter p xs)) s (here z (filter p xs)))
      by (inr c) rest = keep (p z) z (filter p xs) x (rest c)

  pub from_filter : (xs : List X) (x : X) → Contains (filter p xs) x → Contains xs x × (p x ≡ true)
  from_filter xs x h = (
    All-contains (Contains xs) (filter p xs) x (All-filter p (Contains xs) xs (All-contains_itself xs)) h,
    All-contains (λ y. p y ≡ true) (filter p xs) x (filter_passes p xs) h,
  )

-- numbers

pub in_range : (n s : ℕ) → s < n → Contains (range_with_len 0 n) s
in_range n s lt =
    let long = length-range_with_len 0 n in
    (s, omega arith, (let e = get_or-range_with_len 0 n s s lt in omega arith))

numbers_have : (n : ℕ) (first : ℤ) (k : ℕ) → k < n → Contains (numbers n first) (first +ℤ pos k)
numbers_have zero first k lt = absurd (omega arith)
numbers_have (suc n) first zero lt =
    let same : first ≡ (first +ℤ pos 0) = omega (arith, ints) in
    subst (Contains (first ∷ numbers n (first +ℤ pos 1))) same (here first (numbers n (first +ℤ pos 1)))
numbers_have (suc n) first (suc k) lt =
    let same : ((first +ℤ pos 1) +ℤ pos k) ≡ (first +ℤ pos (suc k)) = omega (arith, ints) in
    let more = numbers_have n (first +ℤ pos 1) k (omega (arith, lt)) in
    subst (Contains (first ∷ numbers n (first +ℤ pos 1))) same (there first (numbers n (first +ℤ pos 1)) ((first +ℤ pos 1) +ℤ pos k) more)

pub natural_of : (z : ℤ) → pos 0 ≤ℤ z → pos (natural z) ≡ z
natural_of (pos n) h = refl
natural_of (negsuc n) h = absurd (omega (arith, ints, h))

pub between_has : (lo hi x : ℤ) → lo ≤ℤ x → x <ℤ hi → Contains (numbers_between lo hi) x
between_has lo hi x least most =
    let many : pos (natural (hi -ℤ lo)) ≡ (hi -ℤ lo) = natural_of (hi -ℤ lo) (omega (arith, ints, least, most)) in
    let place : pos (natural (x -ℤ lo)) ≡ (x -ℤ lo) = natural_of (x -ℤ lo) (omega (arith, ints, least)) in
    let same : (lo +ℤ pos (natural (x -ℤ lo))) ≡ x = omega (arith, ints) in
    subst (Contains (numbers (trips lo hi) lo)) same (numbers_have (trips lo hi) lo (natural (x -ℤ lo)) (omega (arith, ints)))

-- the greatest that passes
pub greatest_is : (passes : ℕ → Bool) (n s : ℕ) → s < n → passes s ≡ true → ((k : ℕ) → s < k → k < n → passes k ≡ false) → Contains (greatest passes n) s
greatest_is passes zero s lt e above = absurd (omega arith)
greatest_is passes (suc n) s lt e above = by (cases_eq s n) (greatest_is passes n s)
  where
    by : (s ≡ n) ⊎ (s ≡ n → ⊥) → (s < n → passes s ≡ true → ((k : ℕ) → s < k → k < n → passes k ≡ false) → Contains (greatest passes n) s) → Contains (if passes n then n ∷ [] else greatest passes n) s
    by (inl is) rest =
        subst (λ b. Contains (if b then n ∷ [] else greatest passes n) s) (sym (ap passes (sym is) ∙ e)) (subst (Contains (n ∷ [])) (sym is) (here n []))
    by (inr not) rest =
        let less : s < n = omega arith in
        subst (λ b. Contains (if b then n ∷ [] else greatest passes n) s) (sym (above n less (omega arith))) (rest less e (λ k g l. above k g (omega (arith, l))))
