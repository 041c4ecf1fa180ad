-- What lowering each row of a table gives.
use Rattle.std.proofs.Common.{ℕ, ℤ, pos, ◌*◌, ◌<◌, ◌≤◌, ◌≡◌, ◌⊎◌, inl, inr, arith, false, cond, refl, List, length, slice_index_or, [], subst, sym, ◌∙◌, ap}
use Rattle.std.specs.Prelude.{◌+ℤ◌, ◌≤ℤ◌, ◌==◌}
use Rattle.std.specs.Int.Signed.{◌<ℤ◌, lt_z}
use Rattle.std.proofs.lemmas.Int.{ints, by_lt_z}
use Rattle.bound_table.specs.Rows.{far, cell, entry, step, Sums, Adds, Within, IsTable, lowered, unit_bound, on_way, count}
use Rattle.std.proofs.lemmas.Bool.{cases_eq}
use Rattle.std.proofs.lemmas.Bool.Decides.{nat_tests}
use Rattle.bound_table.proofs.Tight.{Sums-add, range, OnWay-in}
use Rattle.bound_table.proofs.Count.{count-has}

by_way : ℤ → ℤ → ℤ → ℤ → ℤ
by_way p c q t = cond (lt_z p far) (step (p +ℤ c) q t) t

by_way-lower : (p c q t : ℤ) → by_way p c q t ≤ℤ t
unfolding by_way
by_way-lower p c q t = grind (arith, ints)

by_way-through : (p c q t : ℤ) → p <ℤ far → q <ℤ far → by_way p c q t ≤ℤ (p +ℤ c +ℤ q)
unfolding by_way
by_way-through p c q t h i = grind (arith, ints)

by_way-cases : (p c q t : ℤ) → (by_way p c q t ≡ t) ⊎ ((p <ℤ far) × (q <ℤ far) × (by_way p c q t ≡ p +ℤ c +ℤ q) × (by_way p c q t <ℤ t))
unfolding by_way
by_way-cases p c q t =
    by_lt_z p far
    (λ h. by_lt_z q far
    (λ i. by_lt_z (p +ℤ c +ℤ q) t
    (λ j. inr (h, i, grind (arith, ints), grind (arith, ints)))
    (λ j. inl (grind (arith, ints))))
    (λ i. inl (grind (arith, ints))))
    (λ h. inl (grind (arith, ints)))

module _ (rows new : List (List ℤ)) (from : List ℤ) (a b : ℕ) (c : ℤ) (is : from ≡ slice_index_or rows b []) (t : IsTable rows) (la : a < length rows) (lb : b < length rows) (few : Within 8388608 c) (ok : entry rows b a <ℤ far → pos 0 ≤ℤ (entry rows b a +ℤ c)) (long : length new ≡ length rows) (wide : (x : ℕ) → x < length rows → length (slice_index_or new x []) ≡ length from) (each : (x y : ℕ) → x < length rows → y < length from → entry new x y ≡ lowered a from c (slice_index_or rows x []) y) where
  from_wide : length from ≡ length rows
  from_wide = ap length is ∙ t.wide b lb

  is_by_way : (x y : ℕ) → x < length rows → y < length rows → entry new x y ≡ by_way (entry rows x a) c (entry rows b y) (entry rows x y)
  unfolding by_way
  is_by_way x y lx ly = each x y lx (let f = from_wide in omega arith) ∙ ap (λ (r : List ℤ). lowered a r c (slice_index_or rows x []) y) is

  pub Adds-improved : Adds (length rows) (entry rows) a b c (entry new)
  Adds-improved = record {
    lower = λ x y lx ly. rw (is_by_way x y lx ly) (by_way-lower (entry rows x a) c (entry rows b y) (entry rows x y));
    through = λ x y lx ly h i. rw (is_by_way x y lx ly) (by_way-through (entry rows x a) c (entry rows b y) (entry rows x y) h i);
    cases = λ x y lx ly. rw (is_by_way x y lx ly) (by_way-cases (entry rows x a) c (entry rows b y) (entry rows x y));
  }

  pub IsTable-improved : IsTable new
  IsTable-improved = record {
    few = let f = t.few in omega arith;
    wide = λ x l. wide x (omega arith) ∙ from_wide ∙ sym long;
    sums = subst (λ (n : ℕ). Sums n (entry new)) (sym long) (Sums-add (length rows) (entry rows) a b c (entry new) t.few t.sums Adds-improved la lb few.high few.low ok);
  }

-- a constraint that holds already
pub Adds-known : (m : ℕ) (T : ℕ → ℕ → ℤ) (a b : ℕ) (c : ℤ) → m ≤ 96 → Sums m T → a < m → b < m → Within 8388608 c → T a b ≤ℤ c → Adds m T a b c T
Adds-known m T a b c few t la lb w h = record {
  lower = λ x y lx ly. omega (arith, ints);
  through = λ x y lx ly p q.
      let hi = w.high in
      let ab : T a b <ℤ far = omega (arith, ints) in
      let r = range m T few t x a lx la p in
      let s = range m T few t a b la lb ab in
      let i = t.below x a b lx la lb p ab in
      let j = t.below x b y lx lb ly (omega (arith, ints)) q in
      omega (arith, ints);
  cases = λ x y lx ly. inl refl;
}

pub row-range : (rows : List (List ℤ)) (from : List ℤ) (b : ℕ) → IsTable rows → b < length rows → from ≡ slice_index_or rows b [] → (y : ℕ) → y < length from → cell from y <ℤ far → Within 1073741824 (cell from y)
row-range rows from b t lb e =
    subst (λ (r : List ℤ). (y : ℕ) → y < length r → cell r y <ℤ far → Within 1073741824 (cell r y)) (sym e)
    (λ y ly h. let w = t.wide b lb in range (length rows) (entry rows) t.few t.sums b y lb (omega arith) h)

pub entry-range : (rows : List (List ℤ)) (a b : ℕ) → IsTable rows → a < length rows → b < length rows → entry rows a b <ℤ far → Within 1073741824 (entry rows a b)
entry-range rows a b t la lb h = range (length rows) (entry rows) t.few t.sums a b la lb h

-- a table in which only x - x <= 0 is known
unit_itself : (x : ℕ) → unit_bound x x ≡ pos 0
unit_itself x = grind (arith, nat_tests)

unit_other : (x y : ℕ) → unit_bound x y <ℤ far → x ≡ y
unit_other x y h = elim (cases_eq x y) [ inl e ↦ e | inr n ↦ absurd (let e : (x == y) ≡ false = grind (arith, nat_tests) in let i : far <ℤ far = rw e at h in omega (arith, ints)) ]

-- where no other entry is finite and the diagonal is 0, the table is closed under sums
module _ (m : ℕ) (T : ℕ → ℕ → ℤ) (is : (x y : ℕ) → x < m → y < m → T x y ≡ unit_bound x y) where
  pub unit_same : (x : ℕ) → x < m → T x x ≡ pos 0
  unit_same x l = is x x l l ∙ unit_itself x

  pub unit_finite : (x y : ℕ) → x < m → y < m → T x y <ℤ far → x ≡ y
  unit_finite x y lx ly h = unit_other x y (rw (← is x y lx ly) h)

  unit-counts : (x : ℕ) → x < m → 1 ≤ count (on_way T x x) m
  unit-counts x l = count-has (on_way T x x) m x l (OnWay-in T x x x (let e = unit_same x l in record { from = omega (arith, ints); to = omega (arith, ints); sum = omega (arith, ints) }))

  pub Sums-unit : Sums m T
  Sums-unit = record {
    itself = unit_same;
    below = λ x z y lx lz ly h i. let e : x ≡ z = unit_finite x z lx lz h in let f : T x x ≡ pos 0 = unit_same x lx in subst (λ (k : ℕ). T x y ≤ℤ (T x k +ℤ T k y)) e (omega (arith, ints));
    high = λ x y lx ly h. subst (λ (k : ℕ). (T x k +ℤ pos 8388608) ≤ℤ pos (8388608 * count (on_way T x k) m)) (unit_finite x y lx ly h) (let e = unit_same x lx in let g = unit-counts x lx in omega (arith, ints));
    low = λ x y lx ly h. subst (λ (k : ℕ). pos 8388608 ≤ℤ (T x k +ℤ pos (8388608 * count (on_way T x k) m))) (unit_finite x y lx ly h) (let e = unit_same x lx in let g = unit-counts x lx in omega (arith, ints));
  }

pub IsTable-unit : (rows : List (List ℤ)) (m : ℕ) → m ≤ 96 → length rows ≡ m → ((x : ℕ) → x < m → length (slice_index_or rows x []) ≡ m) → ((x y : ℕ) → x < m → y < m → entry rows x y ≡ unit_bound x y) → IsTable rows
IsTable-unit rows m few long wide each = record {
  few = omega arith;
  wide = λ x l. wide x (omega arith) ∙ sym long;
  sums = subst (λ (n : ℕ). Sums n (entry rows)) (sym long) (Sums-unit m (entry rows) each);
}
