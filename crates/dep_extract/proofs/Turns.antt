-- What instances do to a place, over lists of instances, turns of a loop and guards.
use Rattle.std.proofs.Common.{◌≡◌, ◌⊎◌, inl, inr, ℕ, zero, suc, ◌<◌, ℤ, pos, negsuc, ◌+ℤ◌, ◌-ℤ◌, ◌≤ℤ◌, Bool, true, false, List, [], ◌++◌, refl, subst, arith}
use Rattle.std.specs.Int.Signed.{◌<ℤ◌}
use Rattle.std.specs.List.{Contains}
use Rattle.std.proofs.lemmas.Int.{ints}
use Rattle.std.proofs.lemmas.List.Elements.{Contains-append_left, Contains-append_right, Contains-append_cases}
use Rattle.loop_core.specs.declared.place.Place.{Place}
use Rattle.loop_core.specs.declared.effect.Effect.TheVariants.{Sets}
use Rattle.loop_core.specs.Instances.{Instance, turns, trips, natural}
use Rattle.loop_core.specs.Values.{reads}
use Rattle.dep_extract.proofs.Members.{none}

-- an instance writes the place, or reads it
abbrev pub DoesOne : Bool → Instance → Place → Type 0
DoesOne true s p = s.effect ≡ Sets p
DoesOne false s p = Contains (reads s.value) p

abbrev pub Does : Bool → List Instance → Place → Type 0
Does w all p = (s : Instance) × Contains all s × DoesOne w s p

module _ (w : Bool) (p : Place) where
  pub does_none : Does w [] p → ⊥
  does_none h = none h.0 h.1

  pub does_left : (xs ys : List Instance) → Does w xs p → Does w (xs ++ ys) p
  does_left xs ys h = (h.0, Contains-append_left xs ys h.0 h.1, h.2)

  pub does_right : (xs ys : List Instance) → Does w ys p → Does w (xs ++ ys) p
  does_right xs ys h = (h.0, Contains-append_right xs ys h.0 h.1, h.2)

  pub does_cases : (xs ys : List Instance) → Does w (xs ++ ys) p → Does w xs p ⊎ Does w ys p
  does_cases xs ys h = by (Contains-append_cases xs ys h.0 h.1)
    where
      by : Contains xs h.0 ⊎ Contains ys h.0 → Does w xs p ⊎ Does w ys p
      by (inl c) = inl (h.0, c, h.2)
      by (inr c) = inr (h.0, c, h.2)

  -- some turn does it, at a number from the first on
  from_turns : (n : ℕ) (first : ℤ) (body : ℤ → List Instance) → Does w (turns n first body) p
      → (i : ℤ) × (first ≤ℤ i) × (i <ℤ (first +ℤ pos n)) × Does w (body i) p
  from_turns zero first body h = absurd (does_none h)
  from_turns (suc n) first body h = by (does_cases (body first) (turns n (first +ℤ pos 1) body) h) (from_turns n (first +ℤ pos 1) body)
    where
      by : Does w (body first) p ⊎ Does w (turns n (first +ℤ pos 1) body) p
          → (Does w (turns n (first +ℤ pos 1) body) p → (i : ℤ) × ((first +ℤ pos 1) ≤ℤ i) × (i <ℤ ((first +ℤ pos 1) +ℤ pos n)) × Does w (body i) p)
          → (i : ℤ) × (first ≤ℤ i) × (i <ℤ (first +ℤ pos (suc n))) × Does w (body i) p
      by (inl d) rest = (first, omega (arith, ints), omega (arith, ints), d)
      by (inr d) rest = let t = rest d in (t.0, (let l = t.1 in omega (arith, ints)), (let l = t.2 in omega (arith, ints)), t.3)

  to_turns : (n : ℕ) (first : ℤ) (body : ℤ → List Instance) (k : ℕ) → k < n → Does w (body (first +ℤ pos k)) p → Does w (turns n first body) p
  to_turns zero first body k lt d = absurd (omega (arith, lt))
  to_turns (suc n) first body zero lt d =
      let same : first +ℤ pos 0 ≡ first = omega (arith, ints) in
      does_left (body first) (turns n (first +ℤ pos 1) body) (subst (λ i. Does w (body i) p) same d)
  to_turns (suc n) first body (suc k) lt d =
      let same : first +ℤ pos (suc k) ≡ (first +ℤ pos 1) +ℤ pos k = omega (arith, ints) in
      does_right (body first) (turns n (first +ℤ pos 1) body) (to_turns n (first +ℤ pos 1) body k (omega (arith, lt)) (subst (λ i. Does w (body i) p) same d))

  natural_of : (z : ℤ) → pos 0 ≤ℤ z → pos (natural z) ≡ z
  natural_of (pos n) h = refl
  natural_of (negsuc n) h = absurd (omega (arith, ints, h))

  natural_most : (z i : ℤ) → pos 0 ≤ℤ i → i <ℤ pos (natural z) → i <ℤ z
  natural_most (pos n) i h lt = lt
  natural_most (negsuc n) i h lt = absurd (omega (arith, ints, h, lt))

  -- a loop does it at a number between its bounds
  pub from_loop : (lo hi : ℤ) (body : ℤ → List Instance) → Does w (turns (trips lo hi) lo body) p
      → (i : ℤ) × (lo ≤ℤ i) × (i <ℤ hi) × Does w (body i) p
  from_loop lo hi body h =
      let t = from_turns (trips lo hi) lo body h in
      let least = t.1 in
      let most = t.2 in
      let some : (t.0 -ℤ lo) <ℤ (hi -ℤ lo) = natural_most (hi -ℤ lo) (t.0 -ℤ lo) (omega (arith, ints)) (omega (arith, ints)) in
      (t.0, least, omega (arith, ints), t.3)

  pub to_loop : (lo hi : ℤ) (body : ℤ → List Instance) (i : ℤ) → lo ≤ℤ i → i <ℤ hi → Does w (body i) p → Does w (turns (trips lo hi) lo body) p
  to_loop lo hi body i least most d =
      let many : pos (natural (hi -ℤ lo)) ≡ (hi -ℤ lo) = natural_of (hi -ℤ lo) (omega (arith, ints, least, most)) in
      let place : pos (natural (i -ℤ lo)) ≡ (i -ℤ lo) = natural_of (i -ℤ lo) (omega (arith, ints, least)) in
      let same : i ≡ (lo +ℤ pos (natural (i -ℤ lo))) = omega (arith, ints) in
      to_turns (trips lo hi) lo body (natural (i -ℤ lo)) (omega (arith, ints)) (subst (λ z. Does w (body z) p) same d)
