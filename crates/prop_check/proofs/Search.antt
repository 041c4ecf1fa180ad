-- The least place of a decided property, of which only places below a bound have it.
use Rattle.std.proofs.Common.{ℕ, zero, suc, ◌<◌, ◌⊎◌, inl, inr, arith, subst}
use Rattle.std.proofs.Math.Nat.{eq-or-lt_of_le}
use Rattle.index_props.specs.Places.{IsLeast, LeastIn}

among : (P : ℕ → Type 0) → ((k : ℕ) → Dec (P k)) → (m : ℕ) → ((k : ℕ) → k < m → P k → ⊥) ⊎ ((n : ℕ) × IsLeast P n)
among P d zero = inl (λ k lt. absurd (omega (arith, lt)))
among P d (suc m) = elim (among P d m) [
  | inr x ↦ inr x
  | inl none ↦ elim (d m) [
    | yes p ↦ inr (m, record { holds = p; least = none })
    | no np ↦ inl (λ k lt p. elim (eq-or-lt_of_le lt) [
      | inl e ↦ np (subst P (omega (arith, e)) p)
      | inr l ↦ none k (omega arith) p
    ])
  ]
]

pub found : (P : ℕ → Type 0) → ((k : ℕ) → Dec (P k)) → (m : ℕ) → ((k : ℕ) → P k → k < m) → ((k : ℕ) → P k → ⊥) ⊎ ((n : ℕ) × IsLeast P n)
found P d m ends = elim (among P d m) [
  | inl none ↦ inl (λ k p. none k (ends k p) p)
  | inr x ↦ inr x
]

-- the same of two places
some_in : (P : ℕ → ℕ → Type 0) → ((i k : ℕ) → Dec (P i k)) → (n : ℕ) → ((i k : ℕ) → P i k → k < n) → (i : ℕ) → Dec ((k : ℕ) × P i k)
some_in P d n inner i = elim (found (P i) (d i) n (inner i)) [
  | inl none ↦ no (λ h. none h.0 h.1)
  | inr x ↦ yes (x.0, x.1.holds)
]

pub found_in : (P : ℕ → ℕ → Type 0) → ((i k : ℕ) → Dec (P i k)) → (m n : ℕ) → ((i k : ℕ) → P i k → i < m) → ((i k : ℕ) → P i k → k < n) → ((i k : ℕ) → P i k → ⊥) ⊎ ((i : ℕ) × (k : ℕ) × LeastIn P i k)
found_in P d m n outer inner = elim (found (λ i. (k : ℕ) × P i k) (some_in P d n inner) m (λ i h. outer i h.0 h.1)) [
  | inl none ↦ inl (λ i k p. none i (k, p))
  | inr x ↦ elim (found (P x.0) (d x.0) n (inner x.0)) [
    | inl none ↦ absurd (none x.1.holds.0 x.1.holds.1)
    | inr y ↦ inr (x.0, y.0, (x.1, y.1))
  ]
]
