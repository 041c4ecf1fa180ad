-- Where no place fails, the property holds.
use Rattle.std.proofs.Common.{ℕ, zero, suc, ℤ, pos, ◌≤ℤ◌, ◌+◌, ◌<◌, ◌≤◌, ◌≡◌, inl, inr, List, length, arith, subst}
use Rattle.std.specs.Int.Signed.{◌<ℤ◌, ≤ℤ_refl}
use Rattle.std.proofs.lemmas.Int.{ints}
use Rattle.std.proofs.Math.Nat.{eq-or-lt_of_le}
use Rattle.index_props.specs.Meanings.{at, Ranged, RisingList, StrictList, InjectiveList, InSegment, SortedBy, BelowBy, UptoBy, BeforeList}
use Rattle.index_props.specs.Places.{OutOfRange, Falls, Stays, SameBefore, StaysIn, NotBelowIn, AboveIn, NotBefore}

at_most_unless : (x y : ℤ) → (y <ℤ x → ⊥) → x ≤ℤ y
at_most_unless x y above = grind (arith, ints, above)

below_unless : (x y : ℤ) → (y ≤ℤ x → ⊥) → x <ℤ y
below_unless x y above = grind (arith, ints, above)

pub ranged : (f : List ℤ) (lo hi : ℤ) → ((k : ℕ) → OutOfRange f lo hi k → ⊥) → Ranged f lo hi
ranged f lo hi none a lt =
    (at_most_unless lo (at f a) (λ h. none a (lt, inl h)), below_unless (at f a) hi (λ h. none a (lt, inr h)))

rises : (p : List ℤ) → ((k : ℕ) → Falls p k → ⊥) → (b : ℕ) → suc b < length p → at p b ≤ℤ at p (suc b)
rises p none b lt =
    subst (λ n. at p b ≤ℤ at p n) (omega arith) (at_most_unless (at p b) (at p (b + 1)) (λ h. none b (omega arith, h)))

pub rising : (p : List ℤ) → ((k : ℕ) → Falls p k → ⊥) → RisingList p
rising p none a zero le lt = let same : a ≡ 0 = omega arith in rw same (≤ℤ_refl (at p 0))
rising p none a (suc b) le lt = elim (eq-or-lt_of_le le) [
  | inl e ↦ rw e (≤ℤ_refl (at p (suc b)))
  | inr l ↦
      let before : at p a ≤ℤ at p b = rising p none a b (omega arith) (omega arith) in
      let step = rises p none b lt in
      omega (arith, ints)
]

-- from neighbours to any two places, where both are neighbours that are judged
strictly : (f : List ℤ) (a : ℕ) → (b : ℕ) → a < b → ((k : ℕ) → a ≤ k → k < b → at f k <ℤ at f (k + 1)) → at f a <ℤ at f b
strictly f a zero l up = absurd (omega (arith, l))
strictly f a (suc b) l up =
    let step : at f b <ℤ at f (suc b) = subst (λ n. at f b <ℤ at f n) (omega arith) (up b (omega arith) (omega arith)) in
    elim (eq-or-lt_of_le l) [
      | inl e ↦ let same : a ≡ b = omega arith in rw same step
      | inr m ↦
          let before : at f a <ℤ at f b = strictly f a b (omega arith) (λ k ak kb. up k ak (omega arith)) in
          omega (arith, ints)
    ]

pub strict : (p : List ℤ) → ((k : ℕ) → Stays p k → ⊥) → StrictList p
strict p none a b l lt =
    strictly p a b l (λ k ak kb. below_unless (at p k) (at p (k + 1)) (λ h. none k (omega arith, h)))

pub injective : (f : List ℤ) → ((b a : ℕ) → SameBefore f b a → ⊥) → InjectiveList f
injective f none a b la lb e = grind (arith, none a b, none b a, e)

pub sorted : (f p : List ℤ) → ((i a : ℕ) → StaysIn f p i a → ⊥) → SortedBy f p
sorted f p none i a b x y l lt =
    let both = x.both in let from = x.from in let below = y.below in
    let within : (k : ℕ) → a ≤ k → k ≤ b → InSegment p i k = λ k ak kb. record { both = both; from = omega (arith, ints); below = omega (arith, ints) } in
    strictly f a b l (λ k ak kb. below_unless (at f k) (at f (k + 1))
    (λ h. none i k (within k ak (omega arith), within (k + 1) (omega arith) (omega arith), (omega arith, h))))

pub below : (f p : List ℤ) → ((i a : ℕ) → NotBelowIn f p i a → ⊥) → BelowBy f p
below f p none i a x lt = below_unless (at f a) (pos i) (λ h. none i a (x, lt, h))

pub upto : (f p : List ℤ) → ((i a : ℕ) → AboveIn f p i a → ⊥) → UptoBy f p
upto f p none i a x lt = at_most_unless (at f a) (pos i) (λ h. none i a (x, lt, h))

pub before : (f g : List ℤ) → ((k : ℕ) → NotBefore f g k → ⊥) → BeforeList f g
before f g none i lt = at_most_unless (at f i) (at g i) (λ h. none i (lt, h))
