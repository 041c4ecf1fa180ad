-- The names of a line consist of letters, digits and `_`.
use Rattle.std.proofs.Common.{◌≡◌, ℕ, Bool, true, false, ◌&&◌, if◌then◌else◌, ◌==◌, nat_lt, nat_le, length, List, [], ◌∷◌, Option, Some, None, refl, subst}
use Rattle.std.specs.Prelude.{codes, ◌^◌}
use Rattle.text_base.specs.Numbers.{natural}
use Rattle.std.specs.Str.{bytes_eq}
use Rattle.text_base.specs.Lines.{trimmed}
use Rattle.text_base.specs.Words.{is_blank}
use Rattle.loop_core.specs.Names.{is_name_byte, is_digit, begins_with_letter}
use Rattle.loop_lines.specs.declared.line.Line.{Line}
use Rattle.loop_lines.specs.declared.token.Keyword.{Keyword}
use Rattle.loop_lines.specs.declared.token.Token.{Token}
use Rattle.loop_lines.specs.declared.token.Token.TheVariants as tokens
use Rattle.loop_lines.specs.Plain.{is_plain, IsPlainLine}
use Rattle.loop_lines.specs.Reading.{◌>>=◌, or_else}
use Rattle.loop_lines.specs.Words.{number, digits_token, keyword, name_form, letters_token, word_token, as_name, dotted}
use Rattle.loop_lines.specs.Tokens.{Mark, Blank, Point, Equals, Angle, Sign, Stray, Piece, Run, One, sign, signed, mark, onto_run, pieces, before, before_word, tokens_of, line_tokens}
use Rattle.loop_lines.specs.LineReading.{line_at}
use Rattle.loop_lines.specs.Lines.{WrittenLine, line, line_of, IsLine}
use Rattle.loop_lines.proofs.LineLaws.{line_sound}
use Rattle.loop_lines.specs.Fitting.{is_skipped, formed, text_line}

abbrev PlainToken : Token → Type 0
PlainToken (tokens.Name name) = is_plain name ≡ true
PlainToken _ = Unit {0}

abbrev PlainTokens : List Token → Type 0
PlainTokens [] = Unit {0}
PlainTokens (t ∷ ts) = PlainToken t × PlainTokens ts

abbrev IfRead : Option (List Token) → Type 0
IfRead None = Unit {0}
IfRead (Some ts) = PlainTokens ts

abbrev IfToken : Option Token → Type 0
IfToken None = Unit {0}
IfToken (Some t) = PlainToken t

abbrev PlainMark : Mark → Type 0
PlainMark (Sign t) = PlainToken t
PlainMark _ = Unit {0}

abbrev PlainPieces : List Piece → Type 0
PlainPieces [] = Unit {0}
PlainPieces (Run w ∷ ps) = (is_plain w ≡ true) × PlainPieces ps
PlainPieces (One m ∷ ps) = PlainMark m × PlainPieces ps

-- ---- pieces of a line

pick_token : (c : Bool) (t : Token) (o : Option Token) → PlainToken t → IfToken o → IfToken (if c then Some t else o)
pick_token true t o x y = x
pick_token false t o x y = y

sign_plain : (b : ℕ) → IfToken (sign b)
sign_plain b =
    pick_token (b == 91) tokens.Open _ tt (pick_token (b == 93) tokens.Close _ tt (pick_token (b == 40) tokens.Left _ tt (pick_token (b == 41) tokens.Right _ tt (pick_token (b == 44) tokens.Comma _ tt (pick_token (b == 43) tokens.Plus _ tt (pick_token (b == 45) tokens.Minus _ tt (pick_token (b == 42) tokens.Times _ tt (pick_token (b == 47) tokens.Over None tt tt))))))))

signed_plain : (o : Option Token) → IfToken o → PlainMark (signed o)
signed_plain None h = tt
signed_plain (Some t) h = h

pick_mark : (c : Bool) (m n : Mark) → PlainMark m → PlainMark n → PlainMark (if c then m else n)
pick_mark true m n x y = x
pick_mark false m n x y = y

mark_plain : (b : ℕ) → PlainMark (mark b)
mark_plain b =
    pick_mark (b == 46) Point _ tt (pick_mark (b == 61) Equals _ tt (pick_mark (b == 60) Angle _ tt (pick_mark (is_blank b) Blank (signed (sign b)) tt (signed_plain (sign b) (sign_plain b)))))

both : (a b : Bool) → a ≡ true → b ≡ true → (a && b) ≡ true
both true b p q = q
both false b p q = p

onto_plain : (b : ℕ) (ps : List Piece) → is_name_byte b ≡ true → PlainPieces ps → PlainPieces (onto_run b ps)
onto_plain b [] h g = (both _ _ h refl, tt)
onto_plain b (Run w ∷ ps) h (first, rest) = (both _ _ h first, rest)
onto_plain b (One m ∷ ps) h g = (both _ _ h refl, g)

piece_plain : (b : ℕ) (ps : List Piece) (c : Bool) → is_name_byte b ≡ c → PlainPieces ps → PlainPieces (if c then onto_run b ps else One (mark b) ∷ ps)
piece_plain b ps true e g = onto_plain b ps e g
piece_plain b ps false e g = (mark_plain b, g)

pieces_plain : (bs : List ℕ) → PlainPieces (pieces bs)
pieces_plain [] = tt
pieces_plain (b ∷ bs) = piece_plain b (pieces bs) (is_name_byte b) refl (pieces_plain bs)

-- ---- words

number_plain : (o : Option ℕ) → IfToken (number o)
number_plain None = tt
number_plain (Some n) = pick_token (nat_lt n (2 ^ 63)) (tokens.Number n) None tt tt

pick : (c : Bool) (a b : Option Token) → IfToken a → IfToken b → IfToken (if c then a else b)
pick true a b x y = x
pick false a b x y = y

digits_plain : (w : List ℕ) → IfToken (digits_token w)
digits_plain w =
    pick (bytes_eq w (codes "0")) (Some tokens.Zero) _ tt (pick (bytes_eq w (codes "1")) (Some tokens.One) _ tt (pick (nat_le (length w) 19) (number (natural w)) None (number_plain (natural w)) tt))

name_plain : (w : List ℕ) (c : Bool) → is_plain w ≡ true → IfToken ((if c then Some w else None) >>= λ name. Some (tokens.Name name))
name_plain w true h = h
name_plain w false h = tt

key_plain : (o : Option Keyword) (other : Option Token) → IfToken other → IfToken (or_else o (λ k. Some (tokens.Word k)) other)
key_plain None other h = h
key_plain (Some k) other h = tt

letters_plain : (w : List ℕ) → is_plain w ≡ true → IfToken (letters_token w)
letters_plain w h =
    pick (bytes_eq w (codes "n")) (Some tokens.N) _ tt (pick (bytes_eq w (codes "nnz")) (Some tokens.Nnz) _ tt (key_plain (keyword w) _ (name_plain w (begins_with_letter w && nat_le (length w) 16) h)))

word_plain : (w : List ℕ) → is_plain w ≡ true → IfToken (word_token w)
word_plain [] h = tt
word_plain (b ∷ bs) h = pick (is_digit b) (digits_token (b ∷ bs)) (letters_token (b ∷ bs)) (digits_plain (b ∷ bs)) (letters_plain (b ∷ bs) h)

part_plain : (matrix : List ℕ) (o : Option (List ℕ)) → IfToken (o >>= λ part. Some (tokens.Dotted matrix part))
part_plain matrix None = tt
part_plain matrix (Some part) = tt

named_plain : (o : Option (List ℕ)) (b : List ℕ) → IfToken (o >>= λ matrix. name_form b >>= λ part. Some (tokens.Dotted matrix part))
named_plain None b = tt
named_plain (Some matrix) b = part_plain matrix (name_form b)

dotted_from : (o : Option Token) (b : List ℕ) → IfToken (o >>= λ t. as_name t >>= λ matrix. name_form b >>= λ part. Some (tokens.Dotted matrix part))
dotted_from None b = tt
dotted_from (Some t) b = named_plain (as_name t) b

dotted_plain : (a b : List ℕ) → IfToken (dotted a b)
dotted_plain a b = dotted_from (word_token a) b

-- ---- the words and signs of a line

before_plain : (t : Token) (o : Option (List Token)) → PlainToken t → IfRead o → IfRead (before t o)
before_plain t None h g = tt
before_plain t (Some ts) h g = (h, g)

word_before_plain : (w : Option Token) (o : Option (List Token)) → IfToken w → IfRead o → IfRead (before_word w o)
word_before_plain None o h g = tt
word_before_plain (Some t) o h g = before_plain t o h g

tokens_plain : (ps : List Piece) → PlainPieces ps → IfRead (tokens_of ps)
tokens_plain [] h = tt
tokens_plain (One Blank ∷ ps) h = tokens_plain ps h.1
tokens_plain (One (Sign t) ∷ ps) h = before_plain t (tokens_of ps) h.0 (tokens_plain ps h.1)
tokens_plain (One Stray ∷ ps) h = tt
tokens_plain (One Point ∷ []) h = tt
tokens_plain (One Point ∷ Run w ∷ ps) h = tt
tokens_plain (One Point ∷ One Point ∷ ps) h = before_plain tokens.To (tokens_of ps) tt (tokens_plain ps h.1.1)
tokens_plain (One Point ∷ One Blank ∷ ps) h = tt
tokens_plain (One Point ∷ One Equals ∷ ps) h = tt
tokens_plain (One Point ∷ One Angle ∷ ps) h = tt
tokens_plain (One Point ∷ One (Sign t) ∷ ps) h = tt
tokens_plain (One Point ∷ One Stray ∷ ps) h = tt
tokens_plain (One Equals ∷ []) h = before_plain tokens.Assign (tokens_of []) tt tt
tokens_plain (One Equals ∷ Run w ∷ ps) h = before_plain tokens.Assign (tokens_of (Run w ∷ ps)) tt (tokens_plain (Run w ∷ ps) h.1)
tokens_plain (One Equals ∷ One Equals ∷ ps) h = before_plain tokens.Equal (tokens_of ps) tt (tokens_plain ps h.1.1)
tokens_plain (One Equals ∷ One Point ∷ ps) h = before_plain tokens.Assign (tokens_of (One Point ∷ ps)) tt (tokens_plain (One Point ∷ ps) h.1)
tokens_plain (One Equals ∷ One Blank ∷ ps) h = before_plain tokens.Assign (tokens_of (One Blank ∷ ps)) tt (tokens_plain (One Blank ∷ ps) h.1)
tokens_plain (One Equals ∷ One Angle ∷ ps) h = before_plain tokens.Assign (tokens_of (One Angle ∷ ps)) tt (tokens_plain (One Angle ∷ ps) h.1)
tokens_plain (One Equals ∷ One (Sign t) ∷ ps) h = before_plain tokens.Assign (tokens_of (One (Sign t) ∷ ps)) tt (tokens_plain (One (Sign t) ∷ ps) h.1)
tokens_plain (One Equals ∷ One Stray ∷ ps) h = tt
tokens_plain (One Angle ∷ []) h = before_plain tokens.Less (tokens_of []) tt tt
tokens_plain (One Angle ∷ Run w ∷ ps) h = before_plain tokens.Less (tokens_of (Run w ∷ ps)) tt (tokens_plain (Run w ∷ ps) h.1)
tokens_plain (One Angle ∷ One Equals ∷ ps) h = before_plain tokens.AtMost (tokens_of ps) tt (tokens_plain ps h.1.1)
tokens_plain (One Angle ∷ One Point ∷ ps) h = before_plain tokens.Less (tokens_of (One Point ∷ ps)) tt (tokens_plain (One Point ∷ ps) h.1)
tokens_plain (One Angle ∷ One Blank ∷ ps) h = before_plain tokens.Less (tokens_of (One Blank ∷ ps)) tt (tokens_plain (One Blank ∷ ps) h.1)
tokens_plain (One Angle ∷ One Angle ∷ ps) h = before_plain tokens.Less (tokens_of (One Angle ∷ ps)) tt (tokens_plain (One Angle ∷ ps) h.1)
tokens_plain (One Angle ∷ One (Sign t) ∷ ps) h = before_plain tokens.Less (tokens_of (One (Sign t) ∷ ps)) tt (tokens_plain (One (Sign t) ∷ ps) h.1)
tokens_plain (One Angle ∷ One Stray ∷ ps) h = tt
tokens_plain (Run a ∷ []) h = word_before_plain (word_token a) (tokens_of []) (word_plain a h.0) tt
tokens_plain (Run a ∷ Run b ∷ ps) h = word_before_plain (word_token a) (tokens_of (Run b ∷ ps)) (word_plain a h.0) (tokens_plain (Run b ∷ ps) h.1)
tokens_plain (Run a ∷ One Point ∷ []) h = word_before_plain (word_token a) (tokens_of (One Point ∷ [])) (word_plain a h.0) (tokens_plain (One Point ∷ []) h.1)
tokens_plain (Run a ∷ One Point ∷ Run b ∷ ps) h = word_before_plain (dotted a b) (tokens_of ps) (dotted_plain a b) (tokens_plain ps h.1.1.1)
tokens_plain (Run a ∷ One Point ∷ One m ∷ ps) h = word_before_plain (word_token a) (tokens_of (One Point ∷ One m ∷ ps)) (word_plain a h.0) (tokens_plain (One Point ∷ One m ∷ ps) h.1)
tokens_plain (Run a ∷ One Equals ∷ ps) h = word_before_plain (word_token a) (tokens_of (One Equals ∷ ps)) (word_plain a h.0) (tokens_plain (One Equals ∷ ps) h.1)
tokens_plain (Run a ∷ One Angle ∷ ps) h = word_before_plain (word_token a) (tokens_of (One Angle ∷ ps)) (word_plain a h.0) (tokens_plain (One Angle ∷ ps) h.1)
tokens_plain (Run a ∷ One Blank ∷ ps) h = word_before_plain (word_token a) (tokens_of (One Blank ∷ ps)) (word_plain a h.0) (tokens_plain (One Blank ∷ ps) h.1)
tokens_plain (Run a ∷ One (Sign t) ∷ ps) h = word_before_plain (word_token a) (tokens_of (One (Sign t) ∷ ps)) (word_plain a h.0) (tokens_plain (One (Sign t) ∷ ps) h.1)
tokens_plain (Run a ∷ One Stray ∷ ps) h = word_before_plain (word_token a) (tokens_of (One Stray ∷ ps)) (word_plain a h.0) (tokens_plain (One Stray ∷ ps) h.1)

-- ---- lines

abbrev IfLine : Option Line → Type 0
IfLine None = Unit {0}
IfLine (Some l) = IsPlainLine l

from_written : (w : WrittenLine) → PlainTokens (line w) → IsPlainLine (line_of w)
from_written (WrittenLine.Matrix name f) (word, (plain, rest)) = plain
from_written (WrittenLine.Index name s) (word, (plain, rest)) = plain
from_written (WrittenLine.Vector name s c) (word, (plain, rest)) = plain
from_written (WrittenLine.Local name) (word, (plain, rest)) = plain
from_written (WrittenLine.Range f lo hi) g = tt
from_written (WrittenLine.Rising p) g = tt
from_written (WrittenLine.Strict p) g = tt
from_written (WrittenLine.Injective f) g = tt
from_written (WrittenLine.Sorted f p) g = tt
from_written (WrittenLine.Under f p) g = tt
from_written (WrittenLine.Upto f p) g = tt
from_written (WrittenLine.Diagonal d f p) g = tt
from_written (WrittenLine.Before f h) g = tt
from_written (WrittenLine.Loop name) (word, (plain, rest)) = plain
from_written (WrittenLine.For name lo hi) (word, (plain, rest)) = plain
from_written (WrittenLine.When left r right) g = tt
from_written (WrittenLine.Set x at value) g = tt
from_written (WrittenLine.Keep name value) g = tt
from_written WrittenLine.End g = tt

line_plain : (ts : List Token) (o : Option Line) → line_at ts ≡ o → PlainTokens ts → IfLine o
line_plain ts None e g = tt
line_plain ts (Some l) e g =
    let is : IsLine ts l = line_sound ts l e in
    subst IsPlainLine is.means (from_written is.written (subst PlainTokens is.tokens g))

abbrev IfWorded : Option (Option Line) → Type 0
IfWorded None = Unit {0}
IfWorded (Some None) = Unit {0}
IfWorded (Some (Some l)) = IsPlainLine l

shown : (o : Option Line) → IfLine o → IfWorded (o >>= λ l. Some (Some l))
shown None h = tt
shown (Some l) h = h

read_plain : (o : Option (List Token)) → IfRead o → IfWorded (o >>= λ ts. line_at ts >>= λ l. Some (Some l))
read_plain None h = tt
read_plain (Some ts) h = shown (line_at ts) (line_plain ts (line_at ts) refl h)

formed_plain : (l : List ℕ) → IfWorded (formed l)
formed_plain l = read_plain (line_tokens l) (tokens_plain (pieces l) (pieces_plain l))

pick_worded : (c : Bool) (a b : Option (Option Line)) → IfWorded a → IfWorded b → IfWorded (if c then a else b)
pick_worded true a b x y = x
pick_worded false a b x y = y

-- the name that a line of a text declares consists of letters, digits and `_`
pub text_line_plain : (l : List ℕ) → IfWorded (text_line l)
text_line_plain l =
    pick_worded (nat_lt 200 (length (trimmed l))) None _ tt (pick_worded (is_skipped (trimmed l)) (Some None) _ tt (formed_plain (trimmed l)))

pub worded_plain : (text : List ℕ) (l : Line) → text_line text ≡ Some (Some l) → IsPlainLine l
worded_plain text l e = let P : Option (Option Line) → Type 0 = λ o. IfWorded o in let f : IfWorded (Some (Some l)) = subst P e (text_line_plain text) in f
