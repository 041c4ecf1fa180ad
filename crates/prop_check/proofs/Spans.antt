-- The places of a segment that are looked at.
use Rattle.std.proofs.Common.{ℕ, ℤ, pos, ◌≡◌, ◌↔◌, ◌<◌, ◌≤◌, ◌≤ℤ◌, ◌+◌, ◌-◌, List, length, arith}
use Rattle.std.proofs.lemmas.Int.{ints}
use Rattle.index_props.specs.Meanings.{at, InSegment}
use Rattle.prop_check.specs.declared.rule.Rule.TheVariants.{Sorted, Below, Upto}
use Rattle.prop_check.specs.Segments.{IsBad, IsBadIn}

abbrev pub IsCut : ℤ → ℕ → ℕ → Type 0
IsCut word many place = (k : ℕ) → k < many → (word ≤ℤ pos k) ↔ (place ≤ k)

module _ (f p : List ℤ) (i many from to : ℕ) (both : i + 1 < length p) (is : many ≡ length f) (low : IsCut (at p i) many from) (high : IsCut (at p (i + 1)) many to) where
  inside : (k : ℕ) → k < length f → InSegment p i k → (from ≤ k) × (k < to)
  inside k lt x =
      let l = x.from in
      let h = x.below in
      let cut = high k (omega (arith, lt, is)) in
      ((low k (omega (arith, lt, is))).0 l, grind (arith, ints, h, cut))

  lies : (k : ℕ) → k < length f → from ≤ k → k < to → InSegment p i k
  lies k lt fk kt =
      let cut = high k (omega (arith, lt, is)) in
      record { both = both; from = (low k (omega (arith, lt, is))).1 fk; below = grind (arith, ints, kt, cut) }

  pub places : (k : ℕ) → k < length f → InSegment p i k ↔ ((from ≤ k) × (k < to))
  places k lt = (inside k lt, λ h. lies k lt h.0 h.1)

module _ (f p : List ℤ) (i from to : ℕ) (places : (k : ℕ) → k < length f → InSegment p i k ↔ ((from ≤ k) × (k < to))) where
  pub below : (k : ℕ) → IsBadIn Below f p i k ↔ ((from ≤ k) × (k < to) × IsBad Below f i k)
  below k = (λ h. let x = (places k h.1).0 h.0 in (x.0, x.1, (h.1, h.2)), λ h. ((places k h.2.0).1 (h.0, h.1), h.2.0, h.2.1))

  pub upto : (k : ℕ) → IsBadIn Upto f p i k ↔ ((from ≤ k) × (k < to) × IsBad Upto f i k)
  upto k = (λ h. let x = (places k h.1).0 h.0 in (x.0, x.1, (h.1, h.2)), λ h. ((places k h.2.0).1 (h.0, h.1), h.2.0, h.2.1))

  pub sorted : (k : ℕ) → IsBadIn Sorted f p i k ↔ ((from ≤ k) × (k < to - 1) × IsBad Sorted f i k)
  sorted k = (
    λ h. let n = h.2.0 in let x = (places k (omega (arith, n))).0 h.0 in let y = ((places (k + 1) n).0 h.1).1 in (x.0, omega (arith, y), h.2),
    λ h.
        let n = h.2.0 in
        let l = h.0 in
        let t = h.1 in
        ((places k (omega (arith, n))).1 (l, omega (arith, t)), (places (k + 1) n).1 (omega (arith, l), omega (arith, t)), h.2),
  )
