-- Comparisons, and what is built of them, are decided.
use Rattle.std.proofs.Common.{ℤ, ◌≤ℤ◌, ◌≡◌, ◌⊎◌, inl, inr, arith, Bool, true, false, refl, sym, ◌∙◌}
use Rattle.std.proofs.lemmas.Bool.{false≢true}
use Rattle.std.specs.Int.Signed.{◌<ℤ◌, lt_z}
use Rattle.std.specs.Ordering.{int_eq}
use Rattle.std.proofs.lemmas.Int.{ints}
use Rattle.std.proofs.lemmas.Bool.Decides.{Decides-int_eq}

pub known : (b : Bool) → (b ≡ true) ⊎ (b ≡ false)
known true = inl refl
known false = inr refl

pub less : (x y : ℤ) → Dec (x <ℤ y)
less x y = elim (known (lt_z x y)) [
  | inl t ↦ yes (grind (arith, ints))
  | inr f ↦ no (λ h. absurd (grind (arith, ints)))
]

pub at_most : (x y : ℤ) → Dec (x ≤ℤ y)
at_most x y = elim (known (lt_z y x)) [
  | inl t ↦ no (λ h. absurd (grind (arith, ints)))
  | inr f ↦ yes (grind (arith, ints))
]

pub equal : (x y : ℤ) → Dec (x ≡ y)
equal x y = elim (known (int_eq x y)) [
  | inl t ↦ yes ((Decides-int_eq x y).0 t)
  | inr f ↦ no (λ h. absurd (false≢true (sym f ∙ (Decides-int_eq x y).1 h)))
]

pub both : {A B : Type 0} → Dec A → Dec B → Dec (A × B)
both (yes a) (yes b) = yes (a, b)
both (yes a) (no nb) = no (λ h. nb h.1)
both (no na) _ = no (λ h. na h.0)

pub three : {A B C : Type 0} → Dec A → Dec B → Dec C → Dec (A × B × C)
three (yes a) (yes b) (yes c) = yes (a, b, c)
three (yes a) (yes b) (no nc) = no (λ h. nc h.2)
three (yes a) (no nb) _ = no (λ h. nb h.1)
three (no na) _ _ = no (λ h. na h.0)

pub either : {A B : Type 0} → Dec A → Dec B → Dec (A ⊎ B)
either (yes a) _ = yes (inl a)
either (no na) (yes b) = yes (inr b)
either (no na) (no nb) = no (elim [ inl a ↦ na a | inr b ↦ nb b ])

pub not_so : {A : Type 0} → Dec A → Dec (A → ⊥)
not_so (yes a) = no (λ f. f a)
not_so (no na) = yes na

-- from one side of an equivalence to the other
pub same : {A B : Type 0} → (A → B) → (B → A) → Dec A → Dec B
same f g (yes a) = yes (f a)
same f g (no na) = no (λ b. na (g b))

-- what isn't false holds, where it is decided
pub stable : {A : Type 0} → Dec A → ((A → ⊥) → ⊥) → A
stable (yes a) _ = a
stable (no na) f = absurd (f na)
