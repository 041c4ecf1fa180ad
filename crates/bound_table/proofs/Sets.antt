-- A list that is written from left to right.
use Rattle.std.proofs.Common.{ℕ, ℤ, ◌<◌, ◌≤◌, ◌+◌, ◌≡◌, ◌≢◌, inl, inr, List, slice_index_or, length, arith, get_or-set_other, get_or-set_same, below_more, ◌∙◌, slice_set, w64, to_z, of_z, sym, subst, [], ◌∷◌, ◌++◌, true, cond, rules, refl, false}
use Rattle.std.proofs.lemmas.Int.{to_z-of_z, ints}
use mir.Val.{SFits}
use Rattle.std.proofs.lemmas.Bool.{cases_eq, cases_lt}
use Rattle.std.proofs.lemmas.List.{get_or_append_left}
use Rattle.std.proofs.Math.Seq.{get_or-append_seam}
use Rattle.std.specs.Prelude.{◌+ℤ◌}
use Rattle.std.specs.Int.Signed.{lt_z}
use Rattle.bound_table.specs.Rows.{far, cell, step, Within, mark_of}

pub set-done : (now : List ℤ) (g : ℕ → ℤ) (i : ℕ) (v : ℤ) → i < length now → ((k : ℕ) → k < i → cell now k ≡ g k) → v ≡ g i → (k : ℕ) → k < i + 1 → cell (slice_set now i v) k ≡ g k
set-done now g i v lt h e = below_more (λ k. cell (slice_set now i v) k ≡ g k) i
    (λ k l. let ne : k ≢ i = omega arith in rw get_or-set_other (h k l))
    (rw get_or-set_same e)

pub set-left : (now before : List ℤ) (i : ℕ) (v : ℤ) → ((k : ℕ) → i ≤ k → cell now k ≡ cell before k) → (k : ℕ) → i + 1 ≤ k → cell (slice_set now i v) k ≡ cell before k
set-left now before i v h k l = let ne : k ≢ i = omega arith in let le : i ≤ k = omega arith in rw get_or-set_other (h k le)

pub stepped : (s r w t w' t' : ℤ) → SFits w64 r → SFits w64 w → SFits w64 t → w ≡ w' → t ≡ t' → r ≡ step s (to_z w64 (of_z w64 w)) (to_z w64 (of_z w64 t)) → to_z w64 (of_z w64 r) ≡ step s w' t'
stepped s r w t w' t' f g h e d i =
    to_z-of_z w64 r f ∙ i ∙ rw (to_z-of_z w64 w g, to_z-of_z w64 t h, e, d)

pub put-done : {A : Type 0} (now before : List A) (i : ℕ) (v d : A) (P : ℕ → A → Type 0) → i < length now → ((k : ℕ) → k < i → P k (slice_index_or now k d)) → P i v → (k : ℕ) → k < i + 1 → P k (slice_index_or (slice_set now i v) k d)
put-done now before i v d P lt h e = below_more (λ k. P k (slice_index_or (slice_set now i v) k d)) i
    (λ k l. let ne : k ≢ i = omega arith in rw get_or-set_other (h k l))
    (rw get_or-set_same e)

pub put-all : {A B : Type 0} (now : List A) (before : List B) (i : ℕ) (v d : A) (P : A → Type 0) → i < length now → ((k : ℕ) → k < length before → P (slice_index_or now k d)) → P v → (k : ℕ) → k < length before → P (slice_index_or (slice_set now i v) k d)
put-all now before i v d P lt h e k l = elim (cases_eq k i) [
  | inl q ↦ rw q (rw get_or-set_same e)
  | inr ne ↦ rw get_or-set_other (h k l)
]

pub put-left : {A : Type 0} (now before : List A) (i : ℕ) (v d : A) → ((k : ℕ) → i ≤ k → slice_index_or now k d ≡ slice_index_or before k d) → (k : ℕ) → i + 1 ≤ k → slice_index_or (slice_set now i v) k d ≡ slice_index_or before k d
put-left now before i v d h k l = let ne : k ≢ i = omega arith in let le : i ≤ k = omega arith in rw get_or-set_other (h k le)

pub lowered-from : (r c s w t n : ℤ) → SFits w64 r → SFits w64 c → SFits w64 (r +ℤ c) → r ≡ s → lt_z (to_z w64 (of_z w64 r)) far ≡ true → n ≡ step (to_z w64 (of_z w64 (to_z w64 (of_z w64 r) +ℤ to_z w64 (of_z w64 c)))) w t → n ≡ cond (lt_z s far) (step (s +ℤ c) w t) t
lowered-from r c s w t n fr fc fs e lt h =
    let i = rw (to_z-of_z w64 r fr, to_z-of_z w64 c fc, to_z-of_z w64 (r +ℤ c) fs) at h in
    let j : lt_z r far ≡ true = rw (to_z-of_z w64 r fr) at lt in
    rw (← e) (rw j i)

pub Within-add : (r c : ℤ) → Within 1073741824 r → Within 8388608 c → SFits w64 (r +ℤ c)
Within-add r c h i = let f = h.high in let g = h.low in let p = i.high in let q = i.low in search rules

pub mark-same : (a a' b b' : ℤ) (m m' e : ℕ) → a ≡ a' → b ≡ b' → m ≡ m' → mark_of a b m e ≡ mark_of a' b' m' e
mark-same a a' b b' m m' e p q r = rw (p, q, r) refl

pub mark-none : (t : ℤ) (m e : ℕ) → m ≡ mark_of t t m e
mark-none t m e = let h : lt_z t t ≡ false = grind (arith, ints) in rw h refl

-- two lists that are written side by side
pub put-two : {A B : Type 0} (now : List A) (mow : List B) (i : ℕ) (v d : A) (w e : B) (P : ℕ → A → B → Type 0) → i < length now → i < length mow → ((k : ℕ) → k < i → P k (slice_index_or now k d) (slice_index_or mow k e)) → P i v w → (k : ℕ) → k < i + 1 → P k (slice_index_or (slice_set now i v) k d) (slice_index_or (slice_set mow i w) k e)
put-two now mow i v d w e P lt mt h p = below_more (λ k. P k (slice_index_or (slice_set now i v) k d) (slice_index_or (slice_set mow i w) k e)) i
    (λ k l. let ne : k ≢ i = omega arith in rw get_or-set_other (rw get_or-set_other (h k l)))
    (rw get_or-set_same (rw get_or-set_same p))

-- a list that grows at its end
pub push-done : {A : Type 0} (now new : List A) (n : ℕ) (v d : A) (P : ℕ → A → Type 0) → new ≡ now ++ v ∷ [] → length now ≡ n → ((k : ℕ) → k < n → P k (slice_index_or now k d)) → P n v → (k : ℕ) → k < n + 1 → P k (slice_index_or new k d)
push-done {A} now new n v d P e l h p k lt =
    subst (λ (xs : List A). P k (slice_index_or xs k d)) (sym e)
    (elim (cases_lt k n) [
      | inl q ↦ (let s : k < length now = omega arith in subst (λ (x : A). P k x) (sym (get_or_append_left now (v ∷ []) d k s)) (h k q))
      | inr q ↦
          let s : length now ≡ k = omega arith in
          let t : n ≡ k = omega arith in
          let at : slice_index_or (now ++ v ∷ []) k d ≡ v = subst (λ (m : ℕ). slice_index_or (now ++ v ∷ []) m d ≡ v) s (get_or-append_seam now v [] d) in
          subst (λ (x : A). P k x) (sym at) (subst (λ (m : ℕ). P m v) t p)
    ])
