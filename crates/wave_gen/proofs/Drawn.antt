-- The entries of a drawn matrix: they are inside it, and counted.
use Rattle.std.proofs.Common.{◌≡◌, ℕ, zero, suc, pos, negsuc, ◌-ℤ◌, ◌+◌, ◌-◌, ◌*◌, ◌%◌, ◌<◌, ◌≤◌, Bool, false, [], ◌∷◌, length, refl, ap, subst, ◌∙◌, arith}
use Rattle.std.specs.Prelude.{nat_lt, ◌==◌, if◌then◌else◌}
use Rattle.std.proofs.lemmas.Bool.Decides.{nat_tests}
use Rattle.std.proofs.lemmas.Int.{ints}
use Rattle.std.proofs.lemmas.List.{length-append}
use Rattle.csr_arrays.proofs.Buckets.{known}
use Rattle.wave_gen.specs.Draws.{drawn, next, twice}
use Rattle.wave_gen.specs.Lower.{left, three, lefts, after_lefts, diagonal, row, after_row, rows_from, lower_entries}
use Rattle.wave_gen.proofs.Numbers.{IsSmall}
use Rattle.wave_gen.proofs.Entries.{IsEntry, AreEntries, both_entries}

less_nine : (m : ℕ) → m < 19 → IsSmall (pos m -ℤ pos 9)
less_nine m lt =
    known (λ (v : Bool). IsSmall (pos m -ℤ pos 9)) (nat_lt m 9)
    (λ e.
    let below : m < 9 = grind (arith, nat_tests) in
    let is : negsuc (8 - m) ≡ pos m -ℤ pos 9 = omega (arith, ints) in
    let small : IsSmall (negsuc (8 - m)) = omega arith in
    subst IsSmall is small)
    (λ e.
    let above : 9 ≤ m = grind (arith, nat_tests) in
    let is : pos (m - 9) ≡ pos m -ℤ pos 9 = omega (arith, ints) in
    let small : IsSmall (pos (m - 9)) = omega arith in
    subst IsSmall is small)

left_is : (n i s : ℕ) → 0 < i → i < n → IsEntry n (left i s)
left_is n i s some lt =
    let column : drawn (next s) % i < i = omega arith in
    let value : drawn (twice s) % 19 < 19 = omega arith in
    record { row = lt; column = omega arith; small = less_nine (drawn (twice s) % 19) value }

lefts_are : (n i s : ℕ) → i < n → AreEntries n (lefts i s)
lefts_are n i s lt =
    known (λ (v : Bool). AreEntries n (if v then [] else three i s)) (i == 0)
    (λ e. tt)
    (λ e.
    let some : 0 < i = grind (arith, nat_tests) in
    (left_is n i s some lt, (left_is n i (twice s) some lt, (left_is n i (twice (twice s)) some lt, tt))))

diagonal_is : (n i s : ℕ) → i < n → IsEntry n (diagonal i s)
diagonal_is n i s lt = record { row = lt; column = lt; small = omega arith }

rows_are : (n rows i s : ℕ) → i + rows ≤ n → AreEntries n (rows_from rows i s)
rows_are n zero i s le = tt
rows_are n (suc rows) i s le =
    both_entries n (row i s) (rows_from rows (i + 1) (after_row i s))
    (both_entries n (lefts i s) (diagonal i (after_lefts i s) ∷ []) (lefts_are n i s (omega arith)) (diagonal_is n i (after_lefts i s) (omega arith), tt))
    (rows_are n rows (i + 1) (after_row i s) (omega arith))

pub lower_are : (n seed : ℕ) → AreEntries n (lower_entries n seed)
lower_are n seed = rows_are n n 0 seed (omega arith)

lefts_long : (i s : ℕ) → 0 < i → length (lefts i s) ≡ 3
lefts_long i s lt = let no : (i == 0) ≡ false = grind (arith, nat_tests) in rw no refl

row_long : (i s rows : ℕ) → length (rows_from (suc rows) i s) ≡ length (lefts i s) + 1 + length (rows_from rows (i + 1) (after_row i s))
row_long i s rows =
    length-append (row i s) (rows_from rows (i + 1) (after_row i s))
    ∙ ap (λ (k : ℕ). k + length (rows_from rows (i + 1) (after_row i s))) (length-append (lefts i s) (diagonal i (after_lefts i s) ∷ []))

rows_long : (rows i s : ℕ) → 0 < i → length (rows_from rows i s) ≡ 4 * rows
rows_long zero i s lt = omega arith
rows_long (suc rows) i s lt = row_long i s rows ∙ omega (arith, lefts_long i s lt, rows_long rows (i + 1) (after_row i s) (omega arith))

pub lower_long : (n seed : ℕ) → 1 ≤ n → n + 3 * (n - 1) ≡ length (lower_entries n seed)
lower_long zero seed le = absurd (omega arith)
lower_long (suc m) seed le = omega (arith, row_long 0 seed m, rows_long m (0 + 1) (after_row 0 seed) (omega arith))
