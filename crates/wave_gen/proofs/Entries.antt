-- The lines of entries are read as the entries.
use Rattle.std.proofs.Common.{◌≡◌, ℕ, suc, ℤ, pos, negsuc, ◌+◌, ◌-◌, ◌*◌, ◌^◌, ◌<◌, ◌≤◌, true, List, [], ◌∷◌, ◌++◌, length, Ok, refl, arith}
use Rattle.std.specs.Prelude.{nat_le}
use Rattle.std.specs.Fmt.{decimal, signed_decimal}
use Rattle.std.proofs.lemmas.Bool.Decides.{nat_tests}
use Rattle.std.proofs.lemmas.List.{length-append}
use Rattle.std.proofs.lemmas.Fmt.{length-decimal-le}
use Rattle.text_base.specs.Lines.{lines}
use Rattle.csr_arrays.specs.Axes.{Triple}
use Rattle.mtx_read.specs.declared.header.Symmetry.TheVariants.{General}
use Rattle.mtx_read.specs.declared.header.Field.TheVariants.{Integer}
use Rattle.mtx_read.specs.declared.size.Shape.{Shape}
use Rattle.mtx_read.specs.Reading.{kept, items_of}
use Rattle.mtx_read.specs.Entry.{entry, mirrored, fits_word, is_index}
use Rattle.wave_gen.specs.Texts.{entry_text, entries_text}
use Rattle.wave_gen.proofs.Numbers.{IsSmall, integer_decimal, integer_signed, decimal_word, signed_word}
use Rattle.wave_gen.proofs.Lines.{line_kept}

-- a small entry of a matrix of n rows
pub record IsEntry (n : ℕ) (t : Triple) : Type 0 where
  pub row : t.0 < n
  pub column : t.1 < n
  pub small : IsSmall t.2

abbrev pub AreEntries : ℕ → List Triple → Type 0
AreEntries n [] = Unit {0}
AreEntries n (t ∷ ts) = IsEntry n t × AreEntries n ts

pub both_entries : (n : ℕ) (xs ys : List Triple) → AreEntries n xs → AreEntries n ys → AreEntries n (xs ++ ys)
both_entries n [] ys h k = k
both_entries n (x ∷ xs) ys h k = (h.0, both_entries n xs ys h.1 k)

abbrev pub shape : ℕ → ℕ → Shape
shape n stored = record { field = Integer; symmetry = General; rows = n; columns = n; stored = stored }

small_fits : (z : ℤ) → IsSmall z → fits_word z ≡ true
small_fits (pos n) lt = grind (arith, nat_tests)
small_fits (negsuc n) lt = grind (arith, nat_tests)

index_is : (n i : ℕ) → i < n → is_index n (pos (i + 1)) ≡ true
index_is n i lt = let one : nat_le 1 (i + 1) ≡ true = grind (arith, nat_tests) in let last : nat_le (i + 1) n ≡ true = grind (arith, nat_tests) in rw (one, last) refl

abbrev entry_words : Triple → List (List ℕ)
entry_words t = decimal (t.0 + 1) ∷ decimal (t.1 + 1) ∷ signed_decimal t.2 ∷ []

entry_read : (n stored : ℕ) (t : Triple) → n ≤ 2 ^ 20 → IsEntry n t → entry (shape n stored) (entry_words t) ≡ Ok t
entry_read n stored t few h =
    let i : t.0 + 1 - 1 ≡ t.0 = omega arith in
    let j : t.1 + 1 - 1 ≡ t.1 = omega arith in
    let row : t.0 < n = h.row in
    let column : t.1 < n = h.column in
    rw (integer_decimal (t.0 + 1) (omega arith), integer_decimal (t.1 + 1) (omega arith), integer_signed t.2 h.small, small_fits t.2 h.small, index_is n t.0 h.row, index_is n t.1 h.column, i, j) refl

pub entries_read : (n stored k : ℕ) (ts : List Triple) → n ≤ 2 ^ 20 → AreEntries n ts → (items_of (entry (shape n stored)) (mirrored General) (kept k (lines (entries_text ts))) ≡ Ok ts) × (length (kept k (lines (entries_text ts))) ≡ length ts)
entries_read n stored k [] few h = (refl, refl)
entries_read n stored k (t ∷ ts) few h =
    let e = h.0 in
    let row : t.0 < n = e.row in
    let column : t.1 < n = e.column in
    let next = entries_read n stored (k + 1) ts few h.1 in
    let line : kept k (lines (entry_text t ++ entries_text ts)) ≡ (k, entry_words t) ∷ kept (k + 1) (lines (entries_text ts)) =
    line_kept k (decimal (t.0 + 1)) (decimal (t.1 + 1)) (signed_decimal t.2) (entries_text ts) (decimal_word (t.0 + 1) (omega arith)) (decimal_word (t.1 + 1) (omega arith)) (signed_word t.2 e.small) in
    (rw (line, entry_read n stored t few e, next.0) refl, rw line (omega (arith, next.1)))

short_signed : (z : ℤ) → IsSmall z → length (signed_decimal z) ≤ 3
short_signed (pos n) lt = omega (arith, length-decimal-le 2 n (omega arith) (omega arith) (omega arith))
short_signed (negsuc n) lt = omega (arith, length-decimal-le 2 (suc n) (omega arith) (omega arith) (omega arith))

entry_short : (n : ℕ) (t : Triple) → n ≤ 2 ^ 20 → IsEntry n t → length (entry_text t) ≤ 20
entry_short n t few h =
    let row : t.0 < n = h.row in
    let column : t.1 < n = h.column in
    let a = length-decimal-le 7 (t.0 + 1) (omega arith) (omega arith) (omega arith) in
    let b = length-decimal-le 7 (t.1 + 1) (omega arith) (omega arith) (omega arith) in
    let c = short_signed t.2 h.small in
    simp length-append (omega arith)

pub entries_short : (n : ℕ) (ts : List Triple) → n ≤ 2 ^ 20 → AreEntries n ts → length (entries_text ts) ≤ 20 * length ts
entries_short n [] few h = omega arith
entries_short n (t ∷ ts) few h =
    let one = entry_short n t few h.0 in
    let next = entries_short n ts few h.1 in
    omega (arith, length-append (entry_text t) (entries_text ts), one, next)
