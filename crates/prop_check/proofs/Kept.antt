-- What is known of clean places stays known.
use Rattle.std.proofs.Common.{ℕ, ℤ, ◌≡◌, ◌≤◌, ◌⊎◌, inl, inr, List, length, slice_set, sym, ◌∙◌, subst, arith}
use Rattle.std.proofs.lemmas.Int.{ints}
use Rattle.std.proofs.lemmas.List.{get_or-set_other, get_or_past, length-set}
use Rattle.std.proofs.lemmas.Grind.{get_or-set_at}
use Rattle.std.proofs.lemmas.Bool.Decides.{eqb_tells}
use Rattle.std.proofs.Math.Decide.{dec_lt}
use Rattle.prop_check.specs.declared.rule.Rule.{Rule}
use Rattle.prop_check.specs.declared.rule.Rule.TheVariants.{Sorted, Below, Upto}
use Rattle.prop_check.specs.Segments.{IsBad, IsClean, known, AreSkips}

-- what is bad in a later segment is bad in an earlier one
pub worse : (rule : Rule) (f : List ℤ) (i j k : ℕ) → i ≤ j → IsBad rule f j k → IsBad rule f i k
worse Sorted f i j k le h = h
worse Below f i j k le h = let b = h.1 in (h.0, omega (arith, ints))
worse Upto f i j k le h = let b = h.1 in (h.0, omega (arith, ints))

pub later : (rule : Rule) (f : List ℤ) (i j : ℕ) (skips : List ℕ) → i ≤ j → AreSkips rule f i skips → AreSkips rule f j skips
later rule f i j skips le h k = ((h k).0, λ l kl lt bad. (h k).1 l kl lt (worse rule f i j l le bad))

pub at_first : (rule : Rule) (f : List ℤ) (i : ℕ) (skips : List ℕ) → ((k : ℕ) → known skips k ≡ k) → AreSkips rule f i skips
at_first rule f i skips own k = let e = own k in (omega (arith, e), λ l kl lt bad. absurd (omega (arith, e, kl, lt)))

found_after : (s : List ℕ) (k x j : ℕ) → (known (slice_set s k x) j ≡ known s j) ⊎ ((j ≡ k) × (known (slice_set s k x) j ≡ x))
found_after s k x j = elim (eqb_tells j k) [
  | inl same ↦ elim (dec_lt k (length s)) [
    | yes l ↦ inr (same.1, get_or-set_at s k j x j same.1 l)
    | no nl ↦ inl (get_or_past (slice_set s k x) j j (let e = length-set s k x in grind (arith, same, nl, e)) ∙ sym (get_or_past s j j (grind (arith, same, nl))))
  ]
  | inr other ↦ inl (get_or-set_other s k j x j other.1)
]

pub kept : (rule : Rule) (f : List ℤ) (i k x : ℕ) (s new : List ℕ) → AreSkips rule f i s → k ≤ x → IsClean rule f i k x → new ≡ slice_set s k x → AreSkips rule f i new
kept rule f i k x s new h le clean is j = subst (λ n. (j ≤ known n j) × IsClean rule f i j (known n j)) (sym is) (elim (found_after s k x j) [
  | inl old ↦ subst (λ n. (j ≤ n) × IsClean rule f i j n) (sym old) (h j)
  | inr here ↦ subst (λ n. (j ≤ n) × IsClean rule f i j n) (sym here.1) (subst (λ n. (n ≤ x) × IsClean rule f i n x) (sym here.0) (le, clean))
])
