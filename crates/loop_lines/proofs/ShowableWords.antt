-- The names, parts and numbers that words are can be shown.
use Rattle.std.proofs.Common.{◌≡◌, ℕ, ◌^◌, Bool, true, false, ◌&&◌, not, if◌then◌else◌, ◌==◌, nat_lt, nat_le, length, List, [], ◌∷◌, ◌++◌, Option, Some, None, refl, sym, ap, subst, ◌∙◌, arith}
use Rattle.std.specs.Prelude.{codes, ◌||◌}
use Rattle.std.specs.List.{list_any}
use Rattle.std.specs.Str.{bytes_eq}
use Rattle.std.proofs.lemmas.List.Folds.{list_any-append}
use Rattle.std.proofs.lemmas.Slice.Eq.{bytes_eq-Decides}
use Rattle.std.proofs.lemmas.Bool.Decides.{nat_tests}
use Rattle.text_base.specs.Numbers.{natural}
use Rattle.loop_core.specs.Names.{same_name, is_digit, begins_with_letter, reserved, is_name}
use Rattle.loop_lines.specs.declared.token.Keyword.{Keyword}
use Rattle.loop_lines.specs.declared.token.Token.{Token}
use Rattle.loop_lines.specs.declared.token.Token.TheVariants as tokens
use Rattle.loop_lines.specs.Plain.{is_plain}
use Rattle.loop_lines.specs.Reading.{◌>>=◌, or_else}
use Rattle.loop_lines.specs.Words.{declaring, relating, nesting, keeping, unused, lookup, either, keyword, number, digits_token, name_form, letters_token, word_token, as_name, dotted}
use Rattle.loop_lines.specs.Showable.{is_part}
use Rattle.loop_lines.proofs.Bools.{and_parts, and_both}
use Rattle.loop_lines.proofs.ShownTexts.{known}
use Rattle.loop_lines.proofs.ShownWords.{words_of, sizes, reserved_parts}

abbrev pub ShowableToken : Token → Type 0
ShowableToken (tokens.Name name) = is_name name ≡ true
ShowableToken (tokens.Dotted matrix part) = (is_name matrix && is_part part) ≡ true
ShowableToken (tokens.Number n) = nat_lt n (2 ^ 63) ≡ true
ShowableToken _ = Unit {0}

abbrev pub IfToken : Option Token → Type 0
IfToken None = Unit {0}
IfToken (Some t) = ShowableToken t

-- ---- words that no table has

same_bytes : (a b : List ℕ) → same_name a b ≡ true → a ≡ b
same_bytes [] [] e = refl
same_bytes [] (b ∷ bs) e = absurd cc
same_bytes (a ∷ more) [] e = absurd cc
same_bytes (a ∷ more) (b ∷ bs) e =
    let both = and_parts (a == b) (same_name more bs) e in
    let first : a ≡ b = grind (arith, nat_tests) in
    rw (first, same_bytes more bs both.1) refl

bytes_self : (a : List ℕ) → bytes_eq a a ≡ true
bytes_self a = (bytes_eq-Decides a a).1 refl

differs : (a b : List ℕ) → bytes_eq a b ≡ false → same_name a b ≡ false
differs a b e =
    known (λ v. v ≡ false) (same_name a b)
    (λ d. let same : a ≡ b = same_bytes a b d in
    sym (subst (λ (c : List ℕ). bytes_eq a c ≡ true) same (bytes_self a)) ∙ e)
    (λ d. refl)

or_both : (a b : Bool) → a ≡ false → b ≡ false → (a || b) ≡ false
or_both true b e f = e
or_both false b e f = f

none_has : (w : List ℕ) (es : List (List ℕ × Keyword)) → lookup w es ≡ None → list_any (same_name w) (words_of es) ≡ false
none_has w [] e = refl
none_has w (x ∷ es) e =
    let P : Bool → Type 0 = λ v. (if v then Some x.1 else lookup w es) ≡ None → list_any (same_name w) (words_of (x ∷ es)) ≡ false in
    known P (bytes_eq w x.0)
    (λ d f. absurd cc)
    (λ d f. or_both (same_name w x.0) (list_any (same_name w) (words_of es)) (differs w x.0 d) (none_has w es f))
    e

either_none : (o p : Option Keyword) → either o p ≡ None → (o ≡ None) × (p ≡ None)
either_none None p e = (refl, e)
either_none (Some k) p e = absurd cc

joined : (w : List ℕ) (xs ys : List (List ℕ)) → list_any (same_name w) xs ≡ false → list_any (same_name w) ys ≡ false → list_any (same_name w) (xs ++ ys) ≡ false
joined w xs ys e f = list_any-append (same_name w) xs ys ∙ or_both (list_any (same_name w) xs) (list_any (same_name w) ys) e f

unreserved : (w : List ℕ) → bytes_eq w (codes "n") ≡ false → bytes_eq w (codes "nnz") ≡ false → keyword w ≡ None → list_any (same_name w) reserved ≡ false
unreserved w rows stored key =
    let a = either_none (lookup w declaring) (either (lookup w relating) (either (lookup w nesting) (either (lookup w keeping) (lookup w unused)))) key in
    let b = either_none (lookup w relating) (either (lookup w nesting) (either (lookup w keeping) (lookup w unused))) a.1 in
    let c = either_none (lookup w nesting) (either (lookup w keeping) (lookup w unused)) b.1 in
    let d = either_none (lookup w keeping) (lookup w unused) c.1 in
    let few : list_any (same_name w) sizes ≡ false = or_both (same_name w (codes "n")) (list_any (same_name w) (codes "nnz" ∷ [])) (differs w (codes "n") rows) (or_both (same_name w (codes "nnz")) false (differs w (codes "nnz") stored) refl) in
    ap (list_any (same_name w)) reserved_parts
    ∙ joined w (words_of declaring) (words_of relating ++ (words_of nesting ++ (sizes ++ (words_of keeping ++ words_of unused)))) (none_has w declaring a.0)
    (joined w (words_of relating) (words_of nesting ++ (sizes ++ (words_of keeping ++ words_of unused))) (none_has w relating b.0)
    (joined w (words_of nesting) (sizes ++ (words_of keeping ++ words_of unused)) (none_has w nesting c.0)
    (joined w sizes (words_of keeping ++ words_of unused) few
    (joined w (words_of keeping) (words_of unused) (none_has w keeping d.0) (none_has w unused d.1)))))

-- ---- names

name_is : (w : List ℕ) → is_plain w ≡ true → (begins_with_letter w && nat_le (length w) 16) ≡ true → list_any (same_name w) reserved ≡ false → is_name w ≡ true
name_is w plain form none =
    let both = and_parts (begins_with_letter w) (nat_le (length w) 16) form in
    and_both (begins_with_letter w && is_plain w && nat_le (length w) 16) (not (list_any (same_name w) reserved))
    (and_both (begins_with_letter w && is_plain w) (nat_le (length w) 16) (and_both (begins_with_letter w) (is_plain w) both.0 plain) both.1)
    (ap not none)

part_is : (w : List ℕ) → is_plain w ≡ true → (begins_with_letter w && nat_le (length w) 16) ≡ true → is_part w ≡ true
part_is w plain form =
    let both = and_parts (begins_with_letter w) (nat_le (length w) 16) form in
    and_both (begins_with_letter w && is_plain w) (nat_le (length w) 16) (and_both (begins_with_letter w) (is_plain w) both.0 plain) both.1

by_form : (w : List ℕ) (c : Bool) → (begins_with_letter w && nat_le (length w) 16) ≡ c → is_plain w ≡ true → list_any (same_name w) reserved ≡ false → IfToken ((if c then Some w else None) >>= λ name. Some (tokens.Name name))
by_form w true e plain none = name_is w plain e none
by_form w false e plain none = tt

by_key : (w : List ℕ) (o : Option Keyword) → keyword w ≡ o → is_plain w ≡ true → bytes_eq w (codes "n") ≡ false → bytes_eq w (codes "nnz") ≡ false → IfToken (or_else o (λ k. Some (tokens.Word k)) (name_form w >>= λ name. Some (tokens.Name name)))
by_key w (Some k) e plain rows stored = tt
by_key w None e plain rows stored = by_form w (begins_with_letter w && nat_le (length w) 16) refl plain (unreserved w rows stored e)

letters_showable : (w : List ℕ) → is_plain w ≡ true → IfToken (letters_token w)
letters_showable w plain =
    let other : Option Token = or_else (keyword w) (λ k. Some (tokens.Word k)) (name_form w >>= λ name. Some (tokens.Name name)) in
    known (λ v. IfToken (if v then Some tokens.N else (if bytes_eq w (codes "nnz") then Some tokens.Nnz else other))) (bytes_eq w (codes "n"))
    (λ d. tt)
    (λ d. known (λ v. IfToken (if v then Some tokens.Nnz else other)) (bytes_eq w (codes "nnz"))
    (λ f. tt)
    (λ f. by_key w (keyword w) refl plain d f))

-- ---- numbers

number_from : (n : ℕ) (c : Bool) → nat_lt n (2 ^ 63) ≡ c → IfToken (if c then Some (tokens.Number n) else None)
number_from n true e = e
number_from n false e = tt

number_showable : (o : Option ℕ) → IfToken (number o)
number_showable None = tt
number_showable (Some n) = number_from n (nat_lt n (2 ^ 63)) refl

pick : (c : Bool) (a b : Option Token) → IfToken a → IfToken b → IfToken (if c then a else b)
pick true a b x y = x
pick false a b x y = y

digits_showable : (w : List ℕ) → IfToken (digits_token w)
digits_showable w =
    pick (bytes_eq w (codes "0")) (Some tokens.Zero) _ tt (pick (bytes_eq w (codes "1")) (Some tokens.One) _ tt (pick (nat_le (length w) 19) (number (natural w)) None (number_showable (natural w)) tt))

pub word_showable : (w : List ℕ) → is_plain w ≡ true → IfToken (word_token w)
word_showable [] plain = tt
word_showable (b ∷ bs) plain = pick (is_digit b) (digits_token (b ∷ bs)) (letters_token (b ∷ bs)) (digits_showable (b ∷ bs)) (letters_showable (b ∷ bs) plain)

-- ---- arrays of a matrix

part_from : (matrix part : List ℕ) (c : Bool) → (begins_with_letter part && nat_le (length part) 16) ≡ c → is_name matrix ≡ true → is_plain part ≡ true → IfToken ((if c then Some part else None) >>= λ p. Some (tokens.Dotted matrix p))
part_from matrix part true e name plain = and_both (is_name matrix) (is_part part) name (part_is part plain e)
part_from matrix part false e name plain = tt

matrix_from : (o : Option Token) (part : List ℕ) → IfToken o → is_plain part ≡ true → IfToken (o >>= λ t. as_name t >>= λ matrix. name_form part >>= λ p. Some (tokens.Dotted matrix p))
matrix_from None part h plain = tt
matrix_from (Some (tokens.Name matrix)) part h plain = part_from matrix part (begins_with_letter part && nat_le (length part) 16) refl h plain
matrix_from (Some _) part h plain = tt

pub dotted_showable : (a b : List ℕ) → is_plain a ≡ true → is_plain b ≡ true → IfToken (dotted a b)
dotted_showable a b p q = matrix_from (word_token a) b (word_showable a p) q
