-- The words and signs of a line.
use Rattle.std.specs.Prelude.{ℕ, if◌then◌else◌, ◌==◌, List, [], ◌∷◌, Option, Some, None}
use Rattle.text_base.specs.Words.{is_blank}
use Rattle.loop_core.specs.Names.{is_name_byte}
use Rattle.loop_lines.specs.declared.token.Token.{Token}
use Rattle.loop_lines.specs.declared.token.Token.TheVariants as tokens
use Rattle.loop_lines.specs.Reading.{◌>>=◌}
use Rattle.loop_lines.specs.Words.{word_token, dotted}

-- what a byte is that is no letter, digit or `_`: three of them begin signs of two bytes, and some are of no sign
pub data Mark : Type 0 where
  Blank : Mark
  Point : Mark
  Equals : Mark
  Angle : Mark
  Sign : Token → Mark
  Stray : Mark

-- a longest run of letters, digits and `_`, or one other byte
pub data Piece : Type 0 where
  Run : List ℕ → Piece
  One : Mark → Piece

-- `[`, `]`, `(`, `)`, `,`, `+`, `-`, `*` and `/`
abbrev pub sign : ℕ → Option Token
sign b = if b == 91 then Some tokens.Open else (if b == 93 then Some tokens.Close else (if b == 40 then Some tokens.Left else (if b == 41 then Some tokens.Right else (if b == 44 then Some tokens.Comma else (if b == 43 then Some tokens.Plus else (if b == 45 then Some tokens.Minus else (if b == 42 then Some tokens.Times else (if b == 47 then Some tokens.Over else None))))))))

abbrev pub signed : Option Token → Mark
signed (Some t) = Sign t
signed None = Stray

-- `.`, `=` and `<`, blanks, and the others
abbrev pub mark : ℕ → Mark
mark b = if b == 46 then Point else (if b == 61 then Equals else (if b == 60 then Angle else (if is_blank b then Blank else signed (sign b))))

abbrev pub onto_run : ℕ → List Piece → List Piece
onto_run b [] = Run (b ∷ []) ∷ []
onto_run b (Run w ∷ ps) = Run (b ∷ w) ∷ ps
onto_run b (One m ∷ ps) = Run (b ∷ []) ∷ One m ∷ ps

abbrev pub pieces : List ℕ → List Piece
pieces [] = []
pieces (b ∷ bs) = if is_name_byte b then onto_run b (pieces bs) else One (mark b) ∷ pieces bs

abbrev pub before : Token → Option (List Token) → Option (List Token)
before t rest = rest >>= λ ts. Some (t ∷ ts)

abbrev pub before_word : Option Token → Option (List Token) → Option (List Token)
before_word word rest = word >>= λ t. before t rest

-- The words and signs that pieces are: `..`, `==` and `<=` are two marks together, and a name, a point and a word
-- without blanks are one word.
abbrev pub tokens_of : List Piece → Option (List Token)
tokens_of [] = Some []
tokens_of (One Blank ∷ ps) = tokens_of ps
tokens_of (One (Sign t) ∷ ps) = before t (tokens_of ps)
tokens_of (One Point ∷ One Point ∷ ps) = before tokens.To (tokens_of ps)
tokens_of (One Equals ∷ One Equals ∷ ps) = before tokens.Equal (tokens_of ps)
tokens_of (One Equals ∷ ps) = before tokens.Assign (tokens_of ps)
tokens_of (One Angle ∷ One Equals ∷ ps) = before tokens.AtMost (tokens_of ps)
tokens_of (One Angle ∷ ps) = before tokens.Less (tokens_of ps)
tokens_of (Run a ∷ One Point ∷ Run b ∷ ps) = before_word (dotted a b) (tokens_of ps)
tokens_of (Run a ∷ ps) = before_word (word_token a) (tokens_of ps)
tokens_of _ = None

-- the words and signs of a line without its end
abbrev pub line_tokens : List ℕ → Option (List Token)
line_tokens line = tokens_of (pieces line)
