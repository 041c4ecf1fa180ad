-- Lists that ascend and have the same entries are equal.
use Rattle.std.proofs.Common.{◌≡◌, ℕ, suc, zero, ◌+◌, ◌<◌, ◌≤◌, ◌⊎◌, inl, inr, List, [], ◌∷◌, AllPairs, length, get_or, arith, refl, ap, sym, subst}
use Rattle.row_graph.proofs.Members.{In}

-- each entry's key is at least a number, and above the keys before it
abbrev Climbs : {X : Type 0} → (X → ℕ) → ℕ → List X → Type 0
Climbs key low [] = Unit {0}
Climbs key low (x ∷ xs) = (low ≤ key x) × Climbs key (key x + 1) xs

module _ {X : Type 0} (key : X → ℕ) where
  climbs : (low : ℕ) (xs : List X) → ((d : X) → 0 < length xs → low ≤ key (get_or xs 0 d)) → AllPairs (λ (a : X) (b : X). key a < key b) xs → Climbs key low xs
  climbs low [] h asc = tt
  climbs low (x ∷ xs) h asc =
      (h x (omega arith), climbs (key x + 1) xs (λ d l. (let a = asc zero (suc zero) d (omega arith) (omega (arith, l)) in omega (arith, a))) (λ i j d l m. asc (suc i) (suc j) d (omega (arith, l)) (omega (arith, m))))

  climbs_in : (low : ℕ) (xs : List X) (v : X) → Climbs key low xs → In v xs → low ≤ key v
  climbs_in low [] v c h = absurd h
  climbs_in low (x ∷ xs) v c (inl e) = let q : key x ≡ key v = ap key e in omega (arith, c.0, q)
  climbs_in low (x ∷ xs) v c (inr h) = let m = climbs_in (key x + 1) xs v c.1 h in omega (arith, c.0, m)

  -- the first entries are equal
  first_same : (low : ℕ) (x y : X) (xs ys : List X) → Climbs key low (x ∷ xs) → Climbs key low (y ∷ ys) → (y ≡ x) ⊎ In x ys → (x ≡ y) ⊎ In y xs → x ≡ y
  first_same low x y xs ys c d (inl e) j = sym e
  first_same low x y xs ys c d (inr i) (inl e) = e
  first_same low x y xs ys c d (inr i) (inr j) =
      let a = climbs_in (key y + 1) ys x d.1 i in
      let b = climbs_in (key x + 1) xs y c.1 j in
      absurd (omega (arith, a, b))

  rest_in : (x : X) (xs ys : List X) (r : X) → Climbs key (key x + 1) xs → In r xs → (x ≡ r) ⊎ In r ys → In r ys
  rest_in x xs ys r c h (inl e) =
      let a = climbs_in (key x + 1) xs r c h in
      let q : key x ≡ key r = ap key e in
      absurd (omega (arith, a, q))
  rest_in x xs ys r c h (inr i) = i

  climbs_same : (low : ℕ) (xs ys : List X) → Climbs key low xs → Climbs key low ys → ((r : X) → In r xs → In r ys) → ((r : X) → In r ys → In r xs) → xs ≡ ys
  climbs_same low [] [] c d to back = refl
  climbs_same low [] (y ∷ ys) c d to back = absurd (back y (inl refl))
  climbs_same low (x ∷ xs) [] c d to back = absurd (to x (inl refl))
  climbs_same low (x ∷ xs) (y ∷ ys) c d to back =
      let e = first_same low x y xs ys c d (to x (inl refl)) (back y (inl refl)) in
      let d' : Climbs key (key x + 1) ys = subst (λ (z : X). Climbs key (key z + 1) ys) (sym e) d.1 in
      let to' = λ (r : X) (h : In r xs). rest_in x xs ys r c.1 h (subst (λ (z : X). (z ≡ r) ⊎ In r ys) (sym e) (to r (inr h))) in
      let back' = λ (r : X) (h : In r ys). rest_in x ys xs r d' h (back r (inr h)) in
      let rest = climbs_same (key x + 1) xs ys c.1 d' to' back' in
      λ k. e k ∷ rest k

  pub same_sorted : (xs ys : List X) → AllPairs (λ (a : X) (b : X). key a < key b) xs → AllPairs (λ (a : X) (b : X). key a < key b) ys → ((r : X) → In r xs → In r ys) → ((r : X) → In r ys → In r xs) → xs ≡ ys
  same_sorted xs ys p q to back = climbs_same 0 xs ys (climbs 0 xs (λ d l. omega arith) p) (climbs 0 ys (λ d l. omega arith) q) to back
