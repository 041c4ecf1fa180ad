-- A whole text is read as its matrix.
use Rattle.std.proofs.Common.{◌≡◌, ℕ, ◌^◌, ◌<◌, ◌≤◌, true, false, List, [], ◌∷◌, ◌++◌, length, Ok, Some, refl, ap, ◌∙◌, append_assoc, arith}
use Rattle.std.specs.Prelude.{codes, nat_le, nat_lt}
use Rattle.std.specs.Fmt.{decimal}
use Rattle.std.proofs.lemmas.Bool.Decides.{nat_tests}
use Rattle.std.proofs.lemmas.List.{length-append, take_all, drop_all}
use Rattle.std.proofs.lemmas.Fmt.{length-decimal-le}
use Rattle.text_base.specs.Lines.{lines}
use Rattle.csr_arrays.specs.Axes.{Triple}
use Rattle.mtx_read.specs.declared.header.Symmetry.TheVariants.{General}
use Rattle.mtx_read.specs.declared.header.Field.TheVariants.{Integer}
use Rattle.mtx_read.specs.declared.header.Format.{Format}
use Rattle.mtx_read.specs.Reading.{kept, announced}
use Rattle.mtx_read.specs.Entry.{entry, mirrored}
use Rattle.mtx_read.specs.Size.{matrix_size, size_number}
use Rattle.mtx_read.specs.Files.{body, matrix, triples}
use Rattle.wave_gen.specs.Texts.{banner, size_text, entries_text, matrix_text}
use Rattle.wave_gen.proofs.Numbers.{natural_decimal, decimal_word}
use Rattle.wave_gen.proofs.Lines.{line_kept}
use Rattle.wave_gen.proofs.Entries.{AreEntries, shape, entries_read, entries_short}

abbrev format : Format
format = record { field = Integer; symmetry = General }

size_is : (n : ℕ) → n < 10 ^ 18 → size_number (decimal n) ≡ Some n
size_is n lt =
    let few = length-decimal-le 18 n (omega arith) lt (omega arith) in
    let short : nat_le (length (decimal n)) 18 ≡ true = grind (arith, nat_tests) in
    rw short (natural_decimal n (omega arith))

size_read : (n stored k : ℕ) → n ≤ 2 ^ 20 → stored ≤ 2 ^ 23 → matrix_size format k (decimal n ∷ decimal n ∷ decimal stored ∷ []) ≡ Ok (shape n stored)
size_read n stored k few some =
    let rows : nat_lt (2 ^ 20) n ≡ false = grind (arith, nat_tests) in
    let entries : nat_lt (2 ^ 23) stored ≡ false = grind (arith, nat_tests) in
    rw (size_is n (omega arith), size_is stored (omega arith), rows, entries) refl

all_announced : (n stored k : ℕ) (ts : List Triple) → n ≤ 2 ^ 20 → stored ≡ length ts → AreEntries n ts → announced (entry (shape n stored)) (mirrored General) stored (kept k (lines (entries_text ts))) ≡ Ok ts
all_announced n stored k ts few e h =
    let ls = kept k (lines (entries_text ts)) in
    let read = entries_read n stored k ts few h in
    let long : length ls ≤ stored = omega (arith, read.1) in
    let enough : nat_lt (length ls) stored ≡ false = grind (arith, nat_tests, read.1) in
    rw (take_all stored ls long, read.0, enough, drop_all stored ls long) refl

body_read : (n stored end : ℕ) (ts : List Triple) → n ≤ 2 ^ 20 → stored ≤ 2 ^ 23 → stored ≡ length ts → AreEntries n ts → body (matrix_size format) triples end (kept 2 (lines (size_text n stored ++ entries_text ts))) ≡ Ok (n, n, ts)
body_read n stored end ts few some e h =
    let line = line_kept 2 (decimal n) (decimal n) (decimal stored) (entries_text ts) (decimal_word n (omega arith)) (decimal_word n (omega arith)) (decimal_word stored (omega arith)) in
    rw (line, size_read n stored 2 few some, all_announced n stored 3 ts few e h) refl

unfolded : (t : List ℕ) → lines (banner ++ t) ≡ codes "%%MatrixMarket matrix coordinate integer general" ∷ lines t
unfolding banner
unfolded t = refl

banner_long : length banner ≡ 49
unfolding banner
banner_long = refl

head_long : (n : ℕ) → n ≤ 2 ^ 23 → length (decimal n) ≤ 7
head_long n le = length-decimal-le 7 n (omega arith) (omega arith) (omega arith)

fits : (n stored : ℕ) (ts : List Triple) → n ≤ 2 ^ 20 → stored ≤ 2 ^ 23 → stored ≡ length ts → AreEntries n ts → length (matrix_text n stored ts) ≤ 2 ^ 28
fits n stored ts few some e h =
    let rows = head_long n (omega arith) in
    let number = head_long stored some in
    let entries = entries_short n ts few h in
    let first = banner_long in
    simp length-append (omega arith)

pub text_read : (n stored : ℕ) (ts : List Triple) → n ≤ 2 ^ 20 → stored ≤ 2 ^ 23 → stored ≡ length ts → AreEntries n ts → matrix (matrix_text n stored ts) ≡ Ok (n, n, ts)
text_read n stored ts few some e h =
    let small = fits n stored ts few some e h in
    let fit : nat_lt (2 ^ 28) (length (matrix_text n stored ts)) ≡ false = grind (arith, nat_tests) in
    let split : lines (matrix_text n stored ts) ≡ codes "%%MatrixMarket matrix coordinate integer general" ∷ lines (size_text n stored ++ entries_text ts) = ap lines (append_assoc banner (size_text n stored) (entries_text ts)) ∙ unfolded (size_text n stored ++ entries_text ts) in
    rw (fit, split) (body_read n stored _ ts few some e h)
