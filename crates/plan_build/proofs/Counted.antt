-- Lists without repeats that have the same entries are of one length.
use Rattle.std.proofs.Common.{◌≡◌, suc, zero, ◌≤◌, ◌∙◌, ◌⊎◌, inl, inr, List, [], ◌∷◌, AllPairs, length, arith, refl, ap, sym, subst}
use Rattle.row_graph.proofs.Members.{In, In-to}

-- no entry is among those after it
abbrev Distinct : {X : Type 0} → List X → Type 0
Distinct [] = Unit {0}
Distinct (x ∷ xs) = (In x xs → ⊥) × Distinct xs

module _ {X : Type 0} where
  distinct : (xs : List X) → AllPairs (λ (a : X) (b : X). a ≡ b → ⊥) xs → Distinct xs
  distinct [] p = tt
  distinct (x ∷ xs) p =
      (λ h. (let c = In-to xs x h in p zero (suc c.0) x (omega arith) (omega (arith, c.1)) (sym c.2)), distinct xs (λ i j d l m. p (suc i) (suc j) d (omega (arith, l)) (omega (arith, m))))

  -- a list without one of its entries
  abbrev without : (y : X) (ys : List X) → In y ys → List X
  without y [] h = []
  without y (z ∷ zs) (inl e) = zs
  without y (z ∷ zs) (inr h) = z ∷ without y zs h

  length-without : (y : X) (ys : List X) (h : In y ys) → suc (length (without y ys h)) ≡ length ys
  length-without y [] h = absurd h
  length-without y (z ∷ zs) (inl e) = refl
  length-without y (z ∷ zs) (inr h) = ap suc (length-without y zs h)

  in_without : (y : X) (ys : List X) (h : In y ys) (x : X) → In x ys → (y ≡ x) ⊎ In x (without y ys h)
  in_without y [] h x i = absurd h
  in_without y (z ∷ zs) (inl e) x (inl f) = inl (sym e ∙ f)
  in_without y (z ∷ zs) (inl e) x (inr i) = inr i
  in_without y (z ∷ zs) (inr h) x (inl f) = inr (inl f)
  in_without y (z ∷ zs) (inr h) x (inr i) = elim (in_without y zs h x i) as (λ _. (y ≡ x) ⊎ In x (z ∷ without y zs h)) [ inl e ↦ inl e | inr j ↦ inr (inr j) ]

  other : (x r : X) (xs ys : List X) → (In x xs → ⊥) → In r xs → (x ≡ r) ⊎ In r ys → In r ys
  other x r xs ys lacks h (inl e) = absurd (lacks (subst (λ (z : X). In z xs) (sym e) h))
  other x r xs ys lacks h (inr i) = i

  at_most : (xs ys : List X) → Distinct xs → ((x : X) → In x xs → In x ys) → length xs ≤ length ys
  at_most [] ys d sub = omega arith
  at_most (x ∷ xs) ys d sub =
      let h = sub x (inl refl) in
      let rest = at_most xs (without x ys h) d.1 (λ r i. other x r xs (without x ys h) d.0 i (in_without x ys h r (sub r (inr i)))) in
      omega (arith, rest, length-without x ys h)

  pub same_count : (xs ys : List X) → AllPairs (λ (a : X) (b : X). a ≡ b → ⊥) xs → AllPairs (λ (a : X) (b : X). a ≡ b → ⊥) ys → ((x : X) → In x xs → In x ys) → ((x : X) → In x ys → In x xs) → length xs ≡ length ys
  same_count xs ys p q to back = omega (arith, at_most xs ys (distinct xs p) to, at_most ys xs (distinct ys q) back)
