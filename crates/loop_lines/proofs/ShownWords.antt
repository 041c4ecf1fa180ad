-- The texts of names, arrays and numbers are the words that they should be.
use Rattle.std.proofs.Common.{◌≡◌, ℕ, zero, suc, ◌+◌, ◌-◌, ◌*◌, ◌^◌, ◌<◌, Bool, true, false, ◌&&◌, not, nat_lt, nat_le, map, List, [], ◌∷◌, ◌++◌, length, Some, None, refl, sym, ap, subst, ◌∙◌, rules, arith}
use Rattle.std.specs.Prelude.{◌||◌, codes}
use Rattle.std.specs.List.{list_any}
use Rattle.std.specs.Str.{bytes_eq, all_ascii_digits}
use Rattle.std.specs.Fmt.{decimal}
use Rattle.std.proofs.lemmas.List.Folds.{list_any-append}
use Rattle.std.proofs.lemmas.Slice.Eq.{bytes_eq-Decides}
use Rattle.std.proofs.lemmas.Bool.Decides.{nat_tests}
use Rattle.std.proofs.lemmas.Str.Parse.{IsNumeralModel, numerals_by_fold}
use Rattle.std.proofs.lemmas.Fmt.{digits_decimal, digits_value-decimal, decimal_digit, decimal_nonempty, decimal_injective, length-decimal-le}
use Rattle.text_base.specs.Numbers.{natural, value_behind}
use Rattle.loop_core.specs.Names.{same_name, is_digit, is_name_byte, begins_with_letter, reserved, is_name}
use Rattle.loop_lines.specs.declared.token.Keyword.{Keyword}
use Rattle.loop_lines.specs.declared.token.Token.TheVariants as tokens
use Rattle.loop_lines.specs.declared.tree.ArrayName.{ArrayName}
use Rattle.loop_lines.specs.declared.tree.ArrayName.TheVariants.{Own, Dotted}
use Rattle.loop_lines.specs.Plain.{is_plain}
use Rattle.loop_lines.specs.Words.{declaring, relating, nesting, keeping, unused, lookup, keyword, digits_token, name_form, letters_token, word_token, dotted}
use Rattle.loop_lines.specs.Grammar.{Numeral, numeral, array, value}
use Rattle.loop_lines.specs.Shown.{shown_array}
use Rattle.loop_lines.specs.Showable.{is_part, is_array}
use Rattle.loop_lines.proofs.Bools.{and_parts, and_both}
use Rattle.loop_lines.proofs.ShownTexts.{known, not_true, Shows, Sign, word, dotted_word}

-- ---- names are no reserved words

or_parts : (a b : Bool) → (a || b) ≡ false → (a ≡ false) × (b ≡ false)
or_parts true b e = absurd cc
or_parts false b e = (refl, e)

same_self : (a : List ℕ) → same_name a a ≡ true
same_self [] = refl
same_self (b ∷ bs) = rw (same_self bs) (grind (arith, nat_tests))

other : (a b : List ℕ) → same_name a b ≡ false → bytes_eq a b ≡ false
other a b e =
    known (λ v. v ≡ false) (bytes_eq a b)
    (λ d. let same : a ≡ b = (bytes_eq-Decides a b).0 d in
    sym (subst (λ (c : List ℕ). same_name a c ≡ true) same (same_self a)) ∙ e)
    (λ d. refl)

none_among : (w : List ℕ) (es : List (List ℕ × Keyword)) → list_any (same_name w) (map (λ e. e.0) es) ≡ false → lookup w es ≡ None
none_among w [] e = refl
none_among w (x ∷ es) e =
    let both = or_parts (same_name w x.0) (list_any (same_name w) (map (λ e. e.0) es)) e in
    rw (other w x.0 both.0) (none_among w es both.1)

abbrev pub words_of : List (List ℕ × Keyword) → List (List ℕ)
words_of es = map (λ e. e.0) es

abbrev pub sizes : List (List ℕ)
sizes = codes "n" ∷ codes "nnz" ∷ []

pub reserved_parts : reserved ≡ words_of declaring ++ (words_of relating ++ (words_of nesting ++ (sizes ++ (words_of keeping ++ words_of unused))))
reserved_parts = refl

split : (w : List ℕ) (xs ys : List (List ℕ)) → list_any (same_name w) (xs ++ ys) ≡ false → (list_any (same_name w) xs ≡ false) × (list_any (same_name w) ys ≡ false)
split w xs ys e = or_parts (list_any (same_name w) xs) (list_any (same_name w) ys) (sym (list_any-append (same_name w) xs ys) ∙ e)

record NoKeyword (w : List ℕ) : Type 0 where
  rows : bytes_eq w (codes "n") ≡ false
  stored : bytes_eq w (codes "nnz") ≡ false
  key : keyword w ≡ None

no_keyword : (w : List ℕ) → list_any (same_name w) reserved ≡ false → NoKeyword w
no_keyword w e =
    let a = split w (words_of declaring) (words_of relating ++ (words_of nesting ++ (sizes ++ (words_of keeping ++ words_of unused)))) e in
    let b = split w (words_of relating) (words_of nesting ++ (sizes ++ (words_of keeping ++ words_of unused))) a.1 in
    let c = split w (words_of nesting) (sizes ++ (words_of keeping ++ words_of unused)) b.1 in
    let d = split w sizes (words_of keeping ++ words_of unused) c.1 in
    let f = split w (words_of keeping) (words_of unused) d.1 in
    let s = or_parts (same_name w (codes "n")) (list_any (same_name w) (codes "nnz" ∷ [])) d.0 in
    let t = or_parts (same_name w (codes "nnz")) (list_any (same_name w) []) s.1 in
    record {
      rows = other w (codes "n") s.0;
      stored = other w (codes "nnz") t.0;
      key = rw (none_among w declaring a.0, none_among w relating b.0, none_among w nesting c.0, none_among w keeping f.0, none_among w unused f.1) refl;
    }

record NameParts (w : List ℕ) : Type 0 where
  letter : begins_with_letter w ≡ true
  plain : is_plain w ≡ true
  short : nat_le (length w) 16 ≡ true

name_parts : (w : List ℕ) → is_name w ≡ true → NameParts w × (list_any (same_name w) reserved ≡ false)
name_parts w e =
    let a = and_parts (begins_with_letter w && is_plain w && nat_le (length w) 16) (not (list_any (same_name w) reserved)) e in
    let b = and_parts (begins_with_letter w && is_plain w) (nat_le (length w) 16) a.0 in
    let c = and_parts (begins_with_letter w) (is_plain w) b.0 in
    (record { letter = c.0; plain = c.1; short = b.1 }, not_true (list_any (same_name w) reserved) a.1)

part_parts : (w : List ℕ) → is_part w ≡ true → NameParts w
part_parts w e =
    let b = and_parts (begins_with_letter w && is_plain w) (nat_le (length w) 16) e in
    let c = and_parts (begins_with_letter w) (is_plain w) b.0 in
    record { letter = c.0; plain = c.1; short = b.1 }

some_bytes : (w : List ℕ) → begins_with_letter w ≡ true → 0 < length w
some_bytes [] e = absurd cc
some_bytes (b ∷ bs) e = omega arith

name_form_is : (w : List ℕ) → NameParts w → name_form w ≡ Some w
name_form_is w h = rw (h.letter, h.short) refl

letters_is : (w : List ℕ) → NameParts w → NoKeyword w → letters_token w ≡ Some (tokens.Name w)
letters_is w h k = rw (k.rows, k.stored, k.key, name_form_is w h) refl

by_letter : (w : List ℕ) → begins_with_letter w ≡ true → word_token w ≡ letters_token w
by_letter [] e = absurd cc
by_letter (b ∷ bs) e = let no : is_digit b ≡ false = grind (arith, nat_tests) in rw no refl

name_token : (w : List ℕ) → is_name w ≡ true → word_token w ≡ Some (tokens.Name w)
name_token w e = let h = name_parts w e in by_letter w h.0.letter ∙ letters_is w h.0 (no_keyword w h.1)

pub name_shows : (w : List ℕ) → is_name w ≡ true → Shows w (tokens.Name w ∷ [])
name_shows w e = let h = (name_parts w e).0 in word w (tokens.Name w) h.plain (some_bytes w h.letter) (name_token w e)

dotted_token : (a b : List ℕ) → is_name a ≡ true → is_part b ≡ true → dotted a b ≡ Some (tokens.Dotted a b)
dotted_token a b e f = rw (name_token a e, name_form_is b (part_parts b f)) refl

pub array_shows : (f : ArrayName) → is_array f ≡ true → Shows (shown_array f) (array f ∷ [])
array_shows (Own name) e = name_shows name e
array_shows (Dotted matrix part) e =
    let both = and_parts (is_name matrix) (is_part part) e in
    let h = (name_parts matrix both.0).0 in
    let k = part_parts part both.1 in
    dotted_word matrix part (tokens.Dotted matrix part) h.plain (some_bytes matrix h.letter) k.plain (some_bytes part k.letter) (dotted_token matrix part both.0 both.1)

-- ---- numbers

-- the number of digits after a number
abbrev digits_behind : ℕ → List ℕ → ℕ
digits_behind n [] = n
digits_behind n (b ∷ bs) = digits_behind (n * 10 + (b - 48)) bs

own : IsNumeralModel (λ ds. all_ascii_digits ds ≡ true) (digits_behind 0)
own = numerals_by_fold _ (search rules) digits_behind (search rules)

value_of_digits : (n : ℕ) (w : List ℕ) → all_ascii_digits w ≡ true → value_behind n w ≡ Some (digits_behind n w)
value_of_digits n [] e = refl
value_of_digits n (b ∷ w) e =
    let both = and_parts (is_digit b) (all_ascii_digits w) e in
    rw (both.0) (value_of_digits (n * 10 + (b - 48)) w both.1)

natural_of_digits : (w : List ℕ) → all_ascii_digits w ≡ true → 0 < length w → natural w ≡ Some (digits_behind 0 w)
natural_of_digits [] e lt = absurd (omega arith)
natural_of_digits (b ∷ w) e lt = value_of_digits 0 (b ∷ w) e

by_digit : (w : List ℕ) → all_ascii_digits w ≡ true → 0 < length w → word_token w ≡ digits_token w
by_digit [] e lt = absurd (omega arith)
by_digit (b ∷ w) e lt = let both = and_parts (is_digit b) (all_ascii_digits w) e in rw (both.0) refl

digit_byte : (b : ℕ) → is_digit b ≡ true → is_name_byte b ≡ true
digit_byte b e = grind (arith, nat_tests)

digits_plain : (w : List ℕ) → all_ascii_digits w ≡ true → is_plain w ≡ true
digits_plain [] e = refl
digits_plain (b ∷ w) e =
    let both = and_parts (is_digit b) (all_ascii_digits w) e in
    and_both (is_name_byte b) (is_plain w) (digit_byte b both.0) (digits_plain w both.1)

-- the digit 0, the digit 1 or another way
abbrev pub numeral_of : ℕ → Numeral
numeral_of zero = Numeral.Zero
numeral_of (suc zero) = Numeral.One
numeral_of (suc (suc n)) = Numeral.Number (suc (suc n))

pub value_is : (n : ℕ) → value (numeral_of n) ≡ n
value_is zero = refl
value_is (suc zero) = refl
value_is (suc (suc n)) = refl

no_small : (n k : ℕ) → n < 2 ^ 63 → k < 10 → k < n → (w : List ℕ) → decimal k ≡ w → bytes_eq (decimal n) w ≡ false
no_small n k lt few less w is =
    known (λ v. v ≡ false) (bytes_eq (decimal n) w)
    (λ d. let same : decimal n ≡ w = (bytes_eq-Decides (decimal n) w).0 d in
    let equal : n ≡ k = decimal_injective n k (omega arith) (omega arith) (same ∙ sym is) in
    absurd (omega (arith, equal, less)))
    (λ d. refl)

number_token : (n : ℕ) → 1 < n → n < 2 ^ 63 → word_token (decimal n) ≡ Some (tokens.Number n)
number_token n some lt =
    let wide : n < 2 ^ 64 = omega arith in
    let digits = digits_decimal own n wide in
    let long = decimal_nonempty n wide in
    let few = length-decimal-le 19 n (omega arith) (omega arith) wide in
    let short : nat_le (length (decimal n)) 19 ≡ true = grind (arith, nat_tests) in
    let no_zero = no_small n 0 lt (omega arith) (omega arith) (codes "0") (decimal_digit 0 (omega arith)) in
    let no_one = no_small n 1 lt (omega arith) (omega arith) (codes "1") (decimal_digit 1 (omega arith)) in
    let read : natural (decimal n) ≡ Some n = natural_of_digits (decimal n) digits long ∙ ap (λ (x : ℕ). Some x) (digits_value-decimal own n wide) in
    let below : nat_lt n (2 ^ 63) ≡ true = grind (arith, nat_tests) in
    by_digit (decimal n) digits long ∙ rw (no_zero, no_one, short, read, below) refl

pub decimal_shows : (n : ℕ) → n < 2 ^ 63 → Shows (decimal n) (numeral (numeral_of n))
decimal_shows zero lt = subst (λ (w : List ℕ). Shows w (tokens.Zero ∷ [])) (sym (decimal_digit 0 (omega arith))) (word (codes "0") tokens.Zero refl (omega arith) refl)
decimal_shows (suc zero) lt = subst (λ (w : List ℕ). Shows w (tokens.One ∷ [])) (sym (decimal_digit 1 (omega arith))) (word (codes "1") tokens.One refl (omega arith) refl)
decimal_shows (suc (suc n)) lt =
    let wide : suc (suc n) < 2 ^ 64 = omega arith in
    word (decimal (suc (suc n))) (tokens.Number (suc (suc n))) (digits_plain (decimal (suc (suc n))) (digits_decimal own (suc (suc n)) wide)) (decimal_nonempty (suc (suc n)) wide) (number_token (suc (suc n)) (omega arith) lt)

-- ---- signs

pub plus_sign : Sign (codes "+") (tokens.Plus ∷ [])
plus_sign = record { reads = λ s. refl; begins = λ s. refl }

pub minus_sign : Sign (codes "-") (tokens.Minus ∷ [])
minus_sign = record { reads = λ s. refl; begins = λ s. refl }

pub open_sign : Sign (codes "[") (tokens.Open ∷ [])
open_sign = record { reads = λ s. refl; begins = λ s. refl }

pub close_sign : Sign (codes "]") (tokens.Close ∷ [])
close_sign = record { reads = λ s. refl; begins = λ s. refl }
