-- Texts whose bytes are all below 128, and the texts of numbers and names.
use Rattle.std.proofs.Common.{◌≡◌, ℕ, zero, suc, ◌<◌, ◌/◌, ◌%◌, ◌==◌, Bool, true, false, if◌then◌else◌, List, [], ◌∷◌, ◌++◌, refl, subst, ◌∙◌, ℤ, pos, negsuc, nat_lt, arith}
use Rattle.std.specs.List.{list_all}
use Rattle.std.specs.Str.{IsAscii}
use Rattle.std.specs.Fmt.{decimal, digits_onto, digit_glyph, signed_decimal}
use Rattle.std.proofs.DigitsParse.{digits_onto-nil}
use Rattle.std.proofs.lemmas.List.Folds.{list_all-append}
use Rattle.std.proofs.lemmas.Grind.{common_steps}
use Rattle.std.proofs.lemmas.Str.Ascii.{IsAscii-nil, IsAscii-cons}
use Rattle.loop_core.specs.Names.{is_name_byte}
use Rattle.loop_lines.specs.Plain.{is_plain}
use Rattle.loop_lines.proofs.Bools.{and_left, and_right, and_both}

abbrev pub is_small : ℕ → Bool
is_small byte = nat_lt byte 128

pub record Small (text : List ℕ) : Type 0 where
  pub small : list_all is_small text ≡ true

all_ascii : (text : List ℕ) → list_all is_small text ≡ true → IsAscii text
all_ascii [] h = IsAscii-nil
all_ascii (b ∷ bs) h =
    let first : nat_lt b 128 ≡ true = and_left (nat_lt b 128) (list_all is_small bs) h in
    IsAscii-cons b bs (grind (arith, common_steps)) (all_ascii bs (and_right (nat_lt b 128) (list_all is_small bs) h))

pub small_ascii : (text : List ℕ) → Small text → IsAscii text
small_ascii text h = all_ascii text h.small

-- words that stand in the text
pub word : (text : List ℕ) → list_all is_small text ≡ true → Small text
word text h = record { small = h }

join : (xs ys : List ℕ) → Small xs → Small ys → Small (xs ++ ys)
join xs ys h k =
    record { small = list_all-append is_small xs ys ∙ and_both (list_all is_small xs) (list_all is_small ys) h.small k.small }

infixl 65 ◌&◌
pub ◌&◌ : {xs ys : List ℕ} → Small xs → Small ys → Small (xs ++ ys)
h & k = join _ _ h k

pub cons_small : (b : ℕ) (bs : List ℕ) → is_small b ≡ true → Small bs → Small (b ∷ bs)
cons_small b bs h k = record { small = and_both (is_small b) (list_all is_small bs) h k.small }

glyph_small : (d : ℕ) → d < 10 → nat_lt (digit_glyph false d) 128 ≡ true
glyph_small d lt = grind (arith, common_steps)

onto_small : (k n : ℕ) (acc : List ℕ) → Small acc → Small (digits_onto k 10 false n acc)
onto_small zero n acc a = a
onto_small (suc k) n acc a =
    let glyph = digit_glyph false (n % 10) in
    let here : Small (glyph ∷ acc) = cons_small glyph acc (glyph_small (n % 10) (omega arith)) a in
    let more : Small (digits_onto k 10 false (n / 10) (glyph ∷ acc)) = onto_small k (n / 10) (glyph ∷ acc) here in
    elim (n / 10 == 0) as (λ b. Small (if b then glyph ∷ acc else digits_onto k 10 false (n / 10) (glyph ∷ acc))) [ true ↦ here | false ↦ more ]

decimal_small : (n : ℕ) → Small (decimal n)
decimal_small n = subst Small (digits_onto-nil 10 false n) (onto_small 64 n [] (word [] refl))

pub signed_small : (z : ℤ) → Small (signed_decimal z)
signed_small (pos n) = decimal_small n
signed_small (negsuc n) = cons_small 45 (decimal (suc n)) refl (decimal_small (suc n))

byte_small : (b : ℕ) → is_name_byte b ≡ true → is_small b ≡ true
byte_small b h = grind (arith, common_steps)

bytes_small : (name : List ℕ) → list_all is_name_byte name ≡ true → Small name
bytes_small [] h = word [] refl
bytes_small (b ∷ bs) h =
    cons_small b bs (byte_small b (and_left (is_name_byte b) (list_all is_name_byte bs) h)) (bytes_small bs (and_right (is_name_byte b) (list_all is_name_byte bs) h))

pub name_small : (name : List ℕ) → is_plain name ≡ true → Small name
name_small name h = bytes_small name h
