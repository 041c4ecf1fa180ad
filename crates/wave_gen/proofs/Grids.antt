-- The entries of a grid: they are inside its matrix, and counted.
use Rattle.std.proofs.Common.{◌≡◌, ℕ, zero, suc, pos, ◌+◌, ◌-◌, ◌*◌, ◌<◌, ◌≤◌, Bool, true, false, List, ◌∷◌, ◌++◌, length, refl, sym, ◌∙◌, arith}
use Rattle.std.specs.Prelude.{nat_lt, if◌then◌else◌}
use Rattle.std.specs.List.{flat_map, range_with_len}
use Rattle.std.proofs.Math.Nat.{mul-le-mul_right}
use Rattle.std.proofs.lemmas.Bool.Decides.{nat_tests}
use Rattle.std.proofs.lemmas.List.{length-append}
use Rattle.std.proofs.lemmas.Nat.{mul-add-lt}
use Rattle.csr_arrays.specs.Axes.{Triple}
use Rattle.wave_gen.specs.Grid.{place, neighbour, point, row_entries, grid_entries}
use Rattle.wave_gen.proofs.Entries.{AreEntries, both_entries}
use Rattle.wave_gen.proofs.Counts.{Grows, all_of}

inside : (k r c : ℕ) → r < k → c < k → place k r c < k * k
inside k r c row column = mul-add-lt r k c k row column

neighbour_is : (n : ℕ) (exists : Bool) (at other : ℕ) → at < n → ((exists ≡ true) → other < n) → AreEntries n (neighbour exists at other)
neighbour_is n true at other lt h = (record { row = lt; column = h refl; small = omega arith }, tt)
neighbour_is n false at other lt h = tt

point_is : (k r c : ℕ) → r < k → c < k → AreEntries (k * k) (point k r c)
point_is k r c row column =
    let n = k * k in
    let at = place k r c in
    let here = inside k r c row column in
    let above = neighbour (nat_lt 0 r) at (place k (r - 1) c) in
    let before = neighbour (nat_lt 0 c) at (place k r (c - 1)) in
    let after = neighbour (nat_lt (c + 1) k) at (place k r (c + 1)) in
    let below = neighbour (nat_lt (r + 1) k) at (place k (r + 1) c) in
    let a = neighbour_is n (nat_lt 0 r) at (place k (r - 1) c) here (λ e. inside k (r - 1) c (omega arith) column) in
    let b = neighbour_is n (nat_lt 0 c) at (place k r (c - 1)) here (λ e. inside k r (c - 1) row (omega arith)) in
    let d = neighbour_is n (nat_lt (c + 1) k) at (place k r (c + 1)) here (λ e. let lt : c + 1 < k = grind (arith, nat_tests) in inside k r (c + 1) row lt) in
    let f = neighbour_is n (nat_lt (r + 1) k) at (place k (r + 1) c) here (λ e. let lt : r + 1 < k = grind (arith, nat_tests) in inside k (r + 1) c lt column) in
    both_entries n (above ++ before ++ (at, at, pos 4) ∷ after) below
    (both_entries n (above ++ before) ((at, at, pos 4) ∷ after) (both_entries n above before a b) (record { row = here; column = here; small = omega arith }, d))
    f

each_is : (n : ℕ) (f : ℕ → List Triple) (a m : ℕ) → ((i : ℕ) → i < a + m → AreEntries n (f i)) → AreEntries n (flat_map f (range_with_len a m))
each_is n f a zero h = tt
each_is n f a (suc m) h = both_entries n (f a) (flat_map f (range_with_len (a + 1) m)) (h a (omega arith)) (each_is n f (a + 1) m (λ i lt. h i (omega arith)))

pub grid_are : (k : ℕ) → AreEntries (k * k) (grid_entries k)
grid_are k = each_is (k * k) (row_entries k) 0 k (λ r row. each_is (k * k) (point k r) 0 k (λ c column. point_is k r c (omega arith) (omega arith)))

-- ---- how many

abbrev one_if : Bool → ℕ
one_if b = if b then 1 else 0

neighbour_long : (exists : Bool) (at other : ℕ) → length (neighbour exists at other) ≡ one_if exists
neighbour_long true at other = refl
neighbour_long false at other = refl

point_long : (k r c : ℕ) → length (point k r c) ≡ one_if (nat_lt 0 r) + one_if (nat_lt 0 c) + 1 + one_if (nat_lt (c + 1) k) + one_if (nat_lt (r + 1) k)
point_long k r c =
    let at = place k r c in
    let a = neighbour_long (nat_lt 0 r) at (place k (r - 1) c) in
    let b = neighbour_long (nat_lt 0 c) at (place k r (c - 1)) in
    let d = neighbour_long (nat_lt (c + 1) k) at (place k r (c + 1)) in
    let f = neighbour_long (nat_lt (r + 1) k) at (place k (r + 1) c) in
    simp (length-append, a, b, d, f) (omega arith)

-- the neighbours above and below
abbrev across : ℕ → ℕ → ℕ
across k r = one_if (nat_lt 0 r) + one_if (nat_lt (r + 1) k)

row_grows : (k r : ℕ) → Grows (point k r) k (1 + across k r) (2 + across k r) 1
row_grows k r = record {
  at_first = point_long k r 0 ∙ omega arith;
  at_other = λ c some lt. let left : nat_lt 0 c ≡ true = grind (arith, nat_tests) in point_long k r c ∙ rw left (omega arith);
}

row_long : (q r : ℕ) → length (row_entries (suc q) r) ≡ 1 + across (suc q) r + q * (2 + across (suc q) r) + q * 1
row_long q r = all_of (point (suc q) r) q (1 + across (suc q) r) (2 + across (suc q) r) 1 (row_grows (suc q) r)

-- with or without a row below
rest_long : (q up : ℕ) (b : Bool) → 1 + (up + one_if b) + q * (2 + (up + one_if b)) + q * 1 ≡ 1 + up + q * (3 + up) + (if b then 1 + q else 0)
rest_long q up true = grind arith
rest_long q up false = grind arith

grid_grows : (q : ℕ) → Grows (row_entries (suc q)) (suc q) (1 + q * 3) (2 + q * 4) (1 + q)
grid_grows q = record {
  at_first = row_long q 0 ∙ rest_long q 0 (nat_lt (0 + 1) (suc q));
  at_other = λ r some lt. let up : nat_lt 0 r ≡ true = grind (arith, nat_tests) in row_long q r ∙ rw up (rest_long q 1 (nat_lt (r + 1) (suc q)));
}

total : (q : ℕ) → suc q * suc q + 4 * suc q * q ≡ (1 + q * 3) + q * (2 + q * 4) + q * (1 + q)
total q = grind arith

pub grid_long : (k : ℕ) → 1 ≤ k → k * k + 4 * k * (k - 1) ≡ length (grid_entries k)
grid_long zero le = absurd (omega arith)
grid_long (suc q) le =
    let less : suc q - 1 ≡ q = omega arith in
    rw less (total q ∙ sym (all_of (row_entries (suc q)) q (1 + q * 3) (2 + q * 4) (1 + q) (grid_grows q)))

pub few_points : (k : ℕ) → k ≤ 400 → (k * k ≤ 400 * 400) × (k * k + 4 * k * (k - 1) ≤ 5 * (400 * 400))
few_points k le =
    let a : k * k ≤ 400 * k = mul-le-mul_right k le in
    let b : (k - 1) * (4 * k) ≤ 400 * (4 * k) = mul-le-mul_right (4 * k) (omega arith) in
    let turned : 4 * k * (k - 1) ≡ (k - 1) * (4 * k) = grind arith in
    (omega arith, omega (arith, a, b, turned))
