-- The words and signs of a line can be shown, and no byte of it ends a line.
use Rattle.std.proofs.Common.{◌≡◌, ℕ, Bool, true, false, ◌&&◌, not, if◌then◌else◌, ◌==◌, List, [], ◌∷◌, Option, Some, None, refl, sym, subst, ◌∙◌, arith}
use Rattle.std.specs.List.{list_all}
use Rattle.std.proofs.lemmas.Bool.Decides.{nat_tests}
use Rattle.text_base.specs.Words.{is_blank}
use Rattle.loop_core.specs.Names.{is_name_byte}
use Rattle.loop_lines.specs.declared.token.Token.{Token}
use Rattle.loop_lines.specs.declared.token.Token.TheVariants as tokens
use Rattle.loop_lines.specs.Plain.{is_plain}
use Rattle.loop_lines.specs.Words.{word_token, dotted}
use Rattle.loop_lines.specs.Tokens.{Mark, Blank, Point, Equals, Angle, Sign, Stray, Piece, Run, One, sign, signed, mark, onto_run, pieces, before, before_word, tokens_of, line_tokens}
use Rattle.loop_lines.specs.ReadBack.{is_inner, IsInner}
use Rattle.loop_lines.proofs.Bools.{and_both}
use Rattle.loop_lines.proofs.ShownTexts.{known}
use Rattle.loop_lines.proofs.ShowableWords.{ShowableToken, IfToken, word_showable, dotted_showable}

abbrev pub ShowableTokens : List Token → Type 0
ShowableTokens [] = Unit {0}
ShowableTokens (t ∷ ts) = ShowableToken t × ShowableTokens ts

-- each byte is of a word, a sign or a blank
abbrev has_none_stray : List Piece → Bool
has_none_stray [] = true
has_none_stray (One Stray ∷ ps) = false
has_none_stray (_ ∷ ps) = has_none_stray ps

abbrev IfRead : Option (List Token) → Bool → Type 0
IfRead None fine = Unit {0}
IfRead (Some ts) fine = ShowableTokens ts × (fine ≡ true)

abbrev ShowableMark : Mark → Type 0
ShowableMark (Sign t) = ShowableToken t
ShowableMark _ = Unit {0}

abbrev PlainPieces : List Piece → Type 0
PlainPieces [] = Unit {0}
PlainPieces (Run w ∷ ps) = (is_plain w ≡ true) × PlainPieces ps
PlainPieces (One m ∷ ps) = ShowableMark m × PlainPieces ps

-- ---- pieces of a line

pick_token : (c : Bool) (t : Token) (o : Option Token) → ShowableToken t → IfToken o → IfToken (if c then Some t else o)
pick_token true t o x y = x
pick_token false t o x y = y

sign_showable : (b : ℕ) → IfToken (sign b)
sign_showable b =
    pick_token (b == 91) tokens.Open _ tt (pick_token (b == 93) tokens.Close _ tt (pick_token (b == 40) tokens.Left _ tt (pick_token (b == 41) tokens.Right _ tt (pick_token (b == 44) tokens.Comma _ tt (pick_token (b == 43) tokens.Plus _ tt (pick_token (b == 45) tokens.Minus _ tt (pick_token (b == 42) tokens.Times _ tt (pick_token (b == 47) tokens.Over None tt tt))))))))

signed_showable : (o : Option Token) → IfToken o → ShowableMark (signed o)
signed_showable None h = tt
signed_showable (Some t) h = h

pick_mark : (c : Bool) (m n : Mark) → ShowableMark m → ShowableMark n → ShowableMark (if c then m else n)
pick_mark true m n x y = x
pick_mark false m n x y = y

mark_showable : (b : ℕ) → ShowableMark (mark b)
mark_showable b =
    pick_mark (b == 46) Point _ tt (pick_mark (b == 61) Equals _ tt (pick_mark (b == 60) Angle _ tt (pick_mark (is_blank b) Blank (signed (sign b)) tt (signed_showable (sign b) (sign_showable b)))))

onto_plain : (b : ℕ) (ps : List Piece) → is_name_byte b ≡ true → PlainPieces ps → PlainPieces (onto_run b ps)
onto_plain b [] h g = (and_both (is_name_byte b) true h refl, tt)
onto_plain b (Run w ∷ ps) h (first, rest) = (and_both (is_name_byte b) (is_plain w) h first, rest)
onto_plain b (One m ∷ ps) h g = (and_both (is_name_byte b) true h refl, g)

piece_plain : (b : ℕ) (ps : List Piece) (c : Bool) → is_name_byte b ≡ c → PlainPieces ps → PlainPieces (if c then onto_run b ps else One (mark b) ∷ ps)
piece_plain b ps true e g = onto_plain b ps e g
piece_plain b ps false e g = (mark_showable b, g)

pieces_plain : (bs : List ℕ) → PlainPieces (pieces bs)
pieces_plain [] = tt
pieces_plain (b ∷ bs) = piece_plain b (pieces bs) (is_name_byte b) refl (pieces_plain bs)

-- ---- the words and signs of a line

one_before : (t : Token) (o : Option (List Token)) (fine : Bool) → ShowableToken t → IfRead o fine → IfRead (before t o) fine
one_before t None fine h g = tt
one_before t (Some ts) fine h g = ((h, g.0), g.1)

word_before : (w : Option Token) (o : Option (List Token)) (fine : Bool) → IfToken w → IfRead o fine → IfRead (before_word w o) fine
word_before None o fine h g = tt
word_before (Some t) o fine h g = one_before t o fine h g

tokens_showable : (ps : List Piece) → PlainPieces ps → IfRead (tokens_of ps) (has_none_stray ps)
tokens_showable [] h = (tt, refl)
tokens_showable (One Blank ∷ ps) h = tokens_showable ps h.1
tokens_showable (One (Sign t) ∷ ps) h = one_before t (tokens_of ps) (has_none_stray ps) h.0 (tokens_showable ps h.1)
tokens_showable (One Stray ∷ ps) h = tt
tokens_showable (One Point ∷ []) h = tt
tokens_showable (One Point ∷ Run w ∷ ps) h = tt
tokens_showable (One Point ∷ One Point ∷ ps) h = one_before tokens.To (tokens_of ps) (has_none_stray ps) tt (tokens_showable ps h.1.1)
tokens_showable (One Point ∷ One Blank ∷ ps) h = tt
tokens_showable (One Point ∷ One Equals ∷ ps) h = tt
tokens_showable (One Point ∷ One Angle ∷ ps) h = tt
tokens_showable (One Point ∷ One (Sign t) ∷ ps) h = tt
tokens_showable (One Point ∷ One Stray ∷ ps) h = tt
tokens_showable (One Equals ∷ []) h = one_before tokens.Assign (tokens_of []) true tt (tt, refl)
tokens_showable (One Equals ∷ Run w ∷ ps) h = one_before tokens.Assign (tokens_of (Run w ∷ ps)) (has_none_stray (Run w ∷ ps)) tt (tokens_showable (Run w ∷ ps) h.1)
tokens_showable (One Equals ∷ One Equals ∷ ps) h = one_before tokens.Equal (tokens_of ps) (has_none_stray ps) tt (tokens_showable ps h.1.1)
tokens_showable (One Equals ∷ One Point ∷ ps) h = one_before tokens.Assign (tokens_of (One Point ∷ ps)) (has_none_stray (One Point ∷ ps)) tt (tokens_showable (One Point ∷ ps) h.1)
tokens_showable (One Equals ∷ One Blank ∷ ps) h = one_before tokens.Assign (tokens_of (One Blank ∷ ps)) (has_none_stray (One Blank ∷ ps)) tt (tokens_showable (One Blank ∷ ps) h.1)
tokens_showable (One Equals ∷ One Angle ∷ ps) h = one_before tokens.Assign (tokens_of (One Angle ∷ ps)) (has_none_stray (One Angle ∷ ps)) tt (tokens_showable (One Angle ∷ ps) h.1)
tokens_showable (One Equals ∷ One (Sign t) ∷ ps) h = one_before tokens.Assign (tokens_of (One (Sign t) ∷ ps)) (has_none_stray (One (Sign t) ∷ ps)) tt (tokens_showable (One (Sign t) ∷ ps) h.1)
tokens_showable (One Equals ∷ One Stray ∷ ps) h = tt
tokens_showable (One Angle ∷ []) h = one_before tokens.Less (tokens_of []) true tt (tt, refl)
tokens_showable (One Angle ∷ Run w ∷ ps) h = one_before tokens.Less (tokens_of (Run w ∷ ps)) (has_none_stray (Run w ∷ ps)) tt (tokens_showable (Run w ∷ ps) h.1)
tokens_showable (One Angle ∷ One Equals ∷ ps) h = one_before tokens.AtMost (tokens_of ps) (has_none_stray ps) tt (tokens_showable ps h.1.1)
tokens_showable (One Angle ∷ One Point ∷ ps) h = one_before tokens.Less (tokens_of (One Point ∷ ps)) (has_none_stray (One Point ∷ ps)) tt (tokens_showable (One Point ∷ ps) h.1)
tokens_showable (One Angle ∷ One Blank ∷ ps) h = one_before tokens.Less (tokens_of (One Blank ∷ ps)) (has_none_stray (One Blank ∷ ps)) tt (tokens_showable (One Blank ∷ ps) h.1)
tokens_showable (One Angle ∷ One Angle ∷ ps) h = one_before tokens.Less (tokens_of (One Angle ∷ ps)) (has_none_stray (One Angle ∷ ps)) tt (tokens_showable (One Angle ∷ ps) h.1)
tokens_showable (One Angle ∷ One (Sign t) ∷ ps) h = one_before tokens.Less (tokens_of (One (Sign t) ∷ ps)) (has_none_stray (One (Sign t) ∷ ps)) tt (tokens_showable (One (Sign t) ∷ ps) h.1)
tokens_showable (One Angle ∷ One Stray ∷ ps) h = tt
tokens_showable (Run a ∷ []) h = word_before (word_token a) (tokens_of []) true (word_showable a h.0) (tt, refl)
tokens_showable (Run a ∷ Run b ∷ ps) h = word_before (word_token a) (tokens_of (Run b ∷ ps)) (has_none_stray (Run b ∷ ps)) (word_showable a h.0) (tokens_showable (Run b ∷ ps) h.1)
tokens_showable (Run a ∷ One Point ∷ []) h = word_before (word_token a) (tokens_of (One Point ∷ [])) (has_none_stray (One Point ∷ [])) (word_showable a h.0) (tokens_showable (One Point ∷ []) h.1)
tokens_showable (Run a ∷ One Point ∷ Run b ∷ ps) h = word_before (dotted a b) (tokens_of ps) (has_none_stray ps) (dotted_showable a b h.0 h.1.1.0) (tokens_showable ps h.1.1.1)
tokens_showable (Run a ∷ One Point ∷ One m ∷ ps) h = word_before (word_token a) (tokens_of (One Point ∷ One m ∷ ps)) (has_none_stray (One Point ∷ One m ∷ ps)) (word_showable a h.0) (tokens_showable (One Point ∷ One m ∷ ps) h.1)
tokens_showable (Run a ∷ One Equals ∷ ps) h = word_before (word_token a) (tokens_of (One Equals ∷ ps)) (has_none_stray (One Equals ∷ ps)) (word_showable a h.0) (tokens_showable (One Equals ∷ ps) h.1)
tokens_showable (Run a ∷ One Angle ∷ ps) h = word_before (word_token a) (tokens_of (One Angle ∷ ps)) (has_none_stray (One Angle ∷ ps)) (word_showable a h.0) (tokens_showable (One Angle ∷ ps) h.1)
tokens_showable (Run a ∷ One Blank ∷ ps) h = word_before (word_token a) (tokens_of (One Blank ∷ ps)) (has_none_stray (One Blank ∷ ps)) (word_showable a h.0) (tokens_showable (One Blank ∷ ps) h.1)
tokens_showable (Run a ∷ One (Sign t) ∷ ps) h = word_before (word_token a) (tokens_of (One (Sign t) ∷ ps)) (has_none_stray (One (Sign t) ∷ ps)) (word_showable a h.0) (tokens_showable (One (Sign t) ∷ ps) h.1)
tokens_showable (Run a ∷ One Stray ∷ ps) h = word_before (word_token a) (tokens_of (One Stray ∷ ps)) (has_none_stray (One Stray ∷ ps)) (word_showable a h.0) (tokens_showable (One Stray ∷ ps) h.1)

of_line : (s : List ℕ) (ts : List Token) → line_tokens s ≡ Some ts → ShowableTokens ts × (has_none_stray (pieces s) ≡ true)
of_line s ts e = subst (λ (o : Option (List Token)). IfRead o (has_none_stray (pieces s))) e (tokens_showable (pieces s) (pieces_plain s))

-- the words and signs of a line can be shown
pub line_showable : (s : List ℕ) (ts : List Token) → line_tokens s ≡ Some ts → ShowableTokens ts
line_showable s ts e = (of_line s ts e).0

-- ---- no byte of it ends a line

onto_none : (b : ℕ) (ps : List Piece) → has_none_stray (onto_run b ps) ≡ has_none_stray ps
onto_none b [] = refl
onto_none b (Run w ∷ ps) = refl
onto_none b (One m ∷ ps) = refl

name_inner : (b : ℕ) → is_name_byte b ≡ true → is_inner b ≡ true
name_inner b e = grind (arith, nat_tests)

feed_stray : (b : ℕ) (ps : List Piece) → b ≡ 10 → has_none_stray (One (mark b) ∷ ps) ≡ false
feed_stray b ps is = rw is refl

return_stray : (b : ℕ) (ps : List Piece) → b ≡ 13 → has_none_stray (One (mark b) ∷ ps) ≡ false
return_stray b ps is = rw is refl

mark_inner : (b : ℕ) (ps : List Piece) → has_none_stray (One (mark b) ∷ ps) ≡ true → is_inner b ≡ true
mark_inner b ps e =
    known (λ v. (not v && not (b == 13)) ≡ true) (b == 10)
    (λ d. let is : b ≡ 10 = grind (arith, nat_tests) in sym (feed_stray b ps is) ∙ e)
    (λ d. known (λ v. not v ≡ true) (b == 13)
    (λ f. let is : b ≡ 13 = grind (arith, nat_tests) in sym (return_stray b ps is) ∙ e)
    (λ f. refl))

rest_none : (m : Mark) (ps : List Piece) → has_none_stray (One m ∷ ps) ≡ true → has_none_stray ps ≡ true
rest_none Stray ps e = absurd cc
rest_none Blank ps e = e
rest_none Point ps e = e
rest_none Equals ps e = e
rest_none Angle ps e = e
rest_none (Sign t) ps e = e

byte_inner : (b : ℕ) (ps : List Piece) (c : Bool) → is_name_byte b ≡ c → has_none_stray (if c then onto_run b ps else One (mark b) ∷ ps) ≡ true → (is_inner b ≡ true) × (has_none_stray ps ≡ true)
byte_inner b ps true e h = (name_inner b e, sym (onto_none b ps) ∙ h)
byte_inner b ps false e h = (mark_inner b ps h, rest_none (mark b) ps h)

pieces_inner : (s : List ℕ) → has_none_stray (pieces s) ≡ true → IsInner s
pieces_inner [] e = refl
pieces_inner (b ∷ bs) e =
    let both = byte_inner b (pieces bs) (is_name_byte b) refl e in
    and_both (is_inner b) (list_all is_inner bs) both.0 (pieces_inner bs both.1)

pub line_inner : (s : List ℕ) (ts : List Token) → line_tokens s ≡ Some ts → IsInner s
line_inner s ts e = pieces_inner s (of_line s ts e).1
