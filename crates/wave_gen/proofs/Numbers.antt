-- Printed numbers are words, and read as themselves.
use Rattle.std.proofs.Common.{◌≡◌, ℕ, suc, ℤ, pos, negsuc, ◌+◌, ◌-◌, ◌*◌, ◌^◌, ◌<◌, Bool, true, false, ◌&&◌, eqb, List, [], ◌∷◌, ◌++◌, length, Some, refl, ap, ◌∙◌, rules, arith}
use Rattle.std.specs.List.{onto_first}
use Rattle.std.specs.Option.{option_map}
use Rattle.std.specs.Str.{all_ascii_digits}
use Rattle.std.specs.Fmt.{decimal, signed_decimal}
use Rattle.std.proofs.lemmas.Bool.Decides.{nat_tests}
use Rattle.std.proofs.lemmas.Str.Parse.{IsNumeralModel, numerals_by_fold}
use Rattle.std.proofs.lemmas.Fmt.{digits_decimal, digits_value-decimal, decimal_nonempty}
use Rattle.text_base.specs.Numbers.{is_digit, natural, value_behind, integer}
use Rattle.text_base.specs.Words.{is_some_word}
use Rattle.text_base.proofs.QuickLaws.{IsPlain, Passes, digit_plain, parts_plain}
use Rattle.mtx_read.specs.Reading.{is_comment}

both : (a b : Bool) → (a && b) ≡ true → (a ≡ true) × (b ≡ true)
both true b e = (refl, e)
both false b e = absurd cc

-- ---- the value

-- the number of digits after a number
abbrev digits_behind : ℕ → List ℕ → ℕ
digits_behind n [] = n
digits_behind n (b ∷ bs) = digits_behind (n * 10 + (b - 48)) bs

own : IsNumeralModel (λ ds. all_ascii_digits ds ≡ true) (digits_behind 0)
own = numerals_by_fold _ (search rules) digits_behind (search rules)

value_is : (n : ℕ) (w : List ℕ) → all_ascii_digits w ≡ true → value_behind n w ≡ Some (digits_behind n w)
value_is n [] e = refl
value_is n (b ∷ w) e = let parts = both (is_digit b) (all_ascii_digits w) e in rw (parts.0) (value_is (n * 10 + (b - 48)) w parts.1)

natural_is : (w : List ℕ) → all_ascii_digits w ≡ true → 0 < length w → natural w ≡ Some (digits_behind 0 w)
natural_is [] e lt = absurd (omega arith)
natural_is (b ∷ w) e lt = value_is 0 (b ∷ w) e

pub natural_decimal : (n : ℕ) → n < 2 ^ 64 → natural (decimal n) ≡ Some n
natural_decimal n lt = natural_is (decimal n) (digits_decimal own n lt) (decimal_nonempty n lt) ∙ ap (λ (x : ℕ). Some x) (digits_value-decimal own n lt)

unsigned : (w : List ℕ) (n : ℕ) → all_ascii_digits w ≡ true → natural w ≡ Some n → integer w ≡ Some (pos n)
unsigned [] n d e = absurd cc
unsigned (b ∷ w) n d e =
    let parts = both (is_digit b) (all_ascii_digits w) d in
    let digit : is_digit b ≡ true = parts.0 in
    let plus : eqb b 43 ≡ false = grind (arith, nat_tests) in
    let minus : eqb b 45 ≡ false = grind (arith, nat_tests) in
    rw (plus, minus) (ap (option_map pos) e)

pub integer_decimal : (n : ℕ) → n < 2 ^ 64 → integer (decimal n) ≡ Some (pos n)
integer_decimal n lt = unsigned (decimal n) n (digits_decimal own n lt) (natural_decimal n lt)

-- small enough to be printed with at most three bytes
abbrev pub IsSmall : ℤ → Type 0
IsSmall (pos n) = n < 10
IsSmall (negsuc n) = n < 10

pub integer_signed : (z : ℤ) → IsSmall z → integer (signed_decimal z) ≡ Some z
integer_signed (pos n) lt = integer_decimal n (omega arith)
integer_signed (negsuc n) lt = rw (natural_decimal (suc n) (omega arith)) refl

-- ---- the word

-- the bytes of a word, wherever it stands; no comment begins with it
pub record IsWord (w : List ℕ) : Type 0 where
  pub some : is_some_word w ≡ true
  pub begins : is_comment w ≡ false
  pub passes : (t : List ℕ) → Passes (w ++ t) w t

passes_on : (b : ℕ) (s w t : List ℕ) → IsPlain b → Passes s w t → Passes (b ∷ s) (b ∷ w) t
passes_on b s w t p h = record { parts = parts_plain b s p ∙ ap (onto_first b) h.parts; after = rw p.feed h.after }

passes_digits : (w t : List ℕ) → all_ascii_digits w ≡ true → Passes (w ++ t) w t
passes_digits [] t e = record { parts = refl; after = refl }
passes_digits (b ∷ w) t e = let parts = both (is_digit b) (all_ascii_digits w) e in passes_on b (w ++ t) w t (digit_plain b parts.0) (passes_digits w t parts.1)

digits_word : (w : List ℕ) → all_ascii_digits w ≡ true → 0 < length w → IsWord w
digits_word [] e lt = absurd (omega arith)
digits_word (b ∷ w) e lt =
    let parts = both (is_digit b) (all_ascii_digits w) e in
    let digit : is_digit b ≡ true = parts.0 in
    record { some = refl; begins = grind (arith, nat_tests); passes = λ t. passes_digits (b ∷ w) t e }

pub decimal_word : (n : ℕ) → n < 2 ^ 64 → IsWord (decimal n)
decimal_word n lt = digits_word (decimal n) (digits_decimal own n lt) (decimal_nonempty n lt)

minus_word : (w : List ℕ) → IsWord w → IsWord (45 ∷ w)
minus_word w h = record { some = refl; begins = refl; passes = λ t. passes_on 45 (w ++ t) w t (record { blank = refl; feed = refl; return = refl }) (h.passes t) }

pub signed_word : (z : ℤ) → IsSmall z → IsWord (signed_decimal z)
signed_word (pos n) lt = decimal_word n (omega arith)
signed_word (negsuc n) lt = minus_word (decimal (suc n)) (decimal_word (suc n) (omega arith))
