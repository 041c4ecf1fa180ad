-- Entries that ascend by value.
use Rattle.std.proofs.Common.{◌≡◌, ℕ, zero, suc, ◌+◌, ◌-◌, ◌<◌, ◌≤◌, ℤ, pos, ◌≤ℤ◌, ◌<ℤ◌, Bool, true, false, cond, ◌⊎◌, inl, inr, List, length, take, drop, get_or, refl, sym, ◌∙◌, subst, arith, int_lt, int_le}
use Rattle.std.specs.List.Sorted.{IsSortedByKey, IsPartitionedBy, IsPartitionPoint}
use Rattle.std.specs.Ordering.{int_eq, int_cmp, is_lt}
use Rattle.std.specs.declared.cmp.Ordering.TheVariants.{Less, Equal, Greater}
use Rattle.std.proofs.lemmas.Int.{ints}
use Rattle.std.proofs.lemmas.Bool.{cases_eq, cases_lt}
use Rattle.inspector_run.specs.declared.sorted.Held.{Held}
use Rattle.inspector_run.specs.Inverses.{with_value, IsAscendingByValue}
use Rattle.inspector_run.proofs.Sorting.{filter_run}

is_lt_is : (less more : Bool) → is_lt (cond less Less (cond more Greater Equal)) ≡ less
is_lt_is true true = refl
is_lt_is true false = refl
is_lt_is false true = refl
is_lt_is false false = refl

not_less : (x y : ℤ) → int_lt x y ≡ false → y ≤ℤ x
not_less x y e = grind (arith, ints)

pub less_is : (x y : ℤ) → int_lt x y ≡ true → x <ℤ y
less_is x y e = grind (arith, ints)

pub less_from : (x y : ℤ) → x <ℤ y → int_lt x y ≡ true
less_from x y e = grind (arith, ints)

pub at_most_is : (x y : ℤ) → int_le x y ≡ true → x ≤ℤ y
at_most_is x y e = grind (arith, ints)

pub at_most_from : (x y : ℤ) → x ≤ℤ y → int_le x y ≡ true
at_most_from x y e = grind (arith, ints)

pub above_is : (x y : ℤ) → int_le x y ≡ false → y <ℤ x
above_is x y e = grind (arith, ints)

pub above_from : (x y : ℤ) → y <ℤ x → int_le x y ≡ false
above_from x y e = grind (arith, ints)

pub equal_is : (x y : ℤ) → x ≡ y → int_eq x y ≡ true
equal_is x y e = grind (arith, ints)

pub unequal_below : (x y : ℤ) → x <ℤ y → int_eq x y ≡ false
unequal_below x y e = grind (arith, ints)

pub unequal_above : (x y : ℤ) → y <ℤ x → int_eq x y ≡ false
unequal_above x y e = grind (arith, ints)

between : (x y : ℤ) → int_lt x y ≡ false → int_le x y ≡ true → x ≡ y
between x y low high = grind (arith, ints)

nothing : Held
nothing = record { value = pos 0; place = 0 }

ascending_step : (ys : List Held) (s t : ℕ) (d : Held) → s ≤ suc t → (s ≤ t → (get_or ys s d).value ≤ℤ (get_or ys t d).value) → (get_or ys t d).value ≤ℤ (get_or ys (suc t) d).value → (get_or ys s d).value ≤ℤ (get_or ys (suc t) d).value
ascending_step ys s t d le rest step = by (cases_eq s (suc t))
  where
    by : (s ≡ suc t) ⊎ (s ≡ suc t → ⊥) → (get_or ys s d).value ≤ℤ (get_or ys (suc t) d).value
    by (inl e) = subst (λ k. (get_or ys k d).value ≤ℤ (get_or ys (suc t) d).value) (sym e) (omega (arith, ints))
    by (inr ne) = let before : (get_or ys s d).value ≤ℤ (get_or ys t d).value = rest (omega arith) in omega (arith, ints)

pub ascending_from : (ys : List Held) → IsSortedByKey (λ (e : Held). e.value) int_cmp ys → IsAscendingByValue ys
ascending_from ys sorted s zero d le lt = let none : s ≡ 0 = omega arith in subst (λ k. (get_or ys k d).value ≤ℤ (get_or ys 0 d).value) (sym none) (omega (arith, ints))
ascending_from ys sorted s (suc t) d le lt =
    let x = (get_or ys (t + 1) d).value in
    let y = (get_or ys t d).value in
    let fact : is_lt (int_cmp x y) ≡ false = sorted t d (omega arith) (omega arith) in
    let step : y ≤ℤ x = not_less x y (sym (is_lt_is (int_lt x y) (int_lt y x)) ∙ fact) in
    ascending_step ys s t d le (λ before. ascending_from ys sorted s t d before (omega arith)) (subst (λ k. y ≤ℤ (get_or ys k d).value) (omega arith) step)

pub parted_below : (entries : List Held) (value : ℤ) → IsAscendingByValue entries → IsPartitionedBy (λ e. int_lt e.value value) entries
parted_below entries value up i j d le lt e =
    let order : (get_or entries i d).value ≤ℤ (get_or entries j d).value = up i j d le lt in
    let last : (get_or entries j d).value <ℤ value = less_is (get_or entries j d).value value e in
    less_from (get_or entries i d).value value (omega (arith, ints))

pub parted_up_to : (entries : List Held) (value : ℤ) → IsAscendingByValue entries → IsPartitionedBy (λ e. int_le e.value value) entries
parted_up_to entries value up i j d le lt e =
    let order : (get_or entries i d).value ≤ℤ (get_or entries j d).value = up i j d le lt in
    let last : (get_or entries j d).value ≤ℤ value = at_most_is (get_or entries j d).value value e in
    at_most_from (get_or entries i d).value value (omega (arith, ints))

-- those below a value end where those up to it do, or before
pub first_before : (entries : List Held) (value : ℤ) (first after : ℕ) → first ≤ length entries
    → IsPartitionPoint (λ e. int_lt e.value value ≡ true) (λ e. int_lt e.value value ≡ false) entries first
    → IsPartitionPoint (λ e. int_le e.value value ≡ true) (λ e. int_le e.value value ≡ false) entries after
    → first ≤ after
first_before entries value first after inside low high = by (cases_lt after first)
  where
    by : (after < first) ⊎ (first ≤ after) → first ≤ after
    by (inr le) = le
    by (inl lt) =
        let x = (get_or entries after nothing).value in
        let below : int_lt x value ≡ true = low.0 after nothing (omega arith) lt in
        let above : int_le x value ≡ false = high.1 after nothing (omega arith) (omega arith) in
        absurd (let a : x <ℤ value = less_is x value below in let b : value <ℤ x = above_is x value above in omega (arith, ints))

pub run_is : (entries : List Held) (value : ℤ) (first after : ℕ) → first ≤ after → after ≤ length entries
    → IsPartitionPoint (λ e. int_lt e.value value ≡ true) (λ e. int_lt e.value value ≡ false) entries first
    → IsPartitionPoint (λ e. int_le e.value value ≡ true) (λ e. int_le e.value value ≡ false) entries after
    → with_value value entries ≡ take (after - first) (drop first entries)
run_is entries value first after le inside low high =
    filter_run (λ e. int_eq e.value value) entries first after le inside
    (λ k d l. unequal_below (get_or entries k d).value value (less_is (get_or entries k d).value value (low.0 k d (omega arith) l)))
    (λ k d l m. let inside' : k < length entries = omega arith in equal_is (get_or entries k d).value value (between (get_or entries k d).value value (low.1 k d l inside') (high.0 k d (omega arith) m)))
    (λ k d l m. unequal_above (get_or entries k d).value value (above_is (get_or entries k d).value value (high.1 k d l m)))
