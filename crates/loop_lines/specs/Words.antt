-- Words: numbers, reserved words and names.
use Rattle.std.specs.Prelude.{ℕ, ◌^◌, ◌&&◌, if◌then◌else◌, nat_le, nat_lt, codes, List, [], ◌∷◌, length, Option, Some, None}
use Rattle.std.specs.Str.{bytes_eq}
use Rattle.text_base.specs.Numbers.{natural}
use Rattle.loop_core.specs.Names.{is_digit, begins_with_letter}
use Rattle.loop_lines.specs.declared.token.Keyword.{Keyword}
use Rattle.loop_lines.specs.declared.token.Keyword.TheVariants as keys
use Rattle.loop_lines.specs.declared.token.Token.{Token}
use Rattle.loop_lines.specs.declared.token.Token.TheVariants as tokens
use Rattle.loop_lines.specs.Reading.{◌>>=◌, or_else}

-- the words of declarations
abbrev pub declaring : List (List ℕ × Keyword)
declaring =
    (codes "matrix", keys.Matrix) ∷ (codes "csr", keys.Csr) ∷ (codes "csc", keys.Csc) ∷ (codes "index", keys.Index)
    ∷ (codes "vector", keys.Vector) ∷ (codes "file", keys.File) ∷ (codes "zero", keys.Zero) ∷ []

-- the words of properties
abbrev pub relating : List (List ℕ × Keyword)
relating =
    (codes "range", keys.Range) ∷ (codes "rising", keys.Rising) ∷ (codes "strict", keys.Strict) ∷ (codes "injective", keys.Injective)
    ∷ (codes "sorted", keys.Sorted) ∷ (codes "below", keys.Below) ∷ (codes "upto", keys.Upto) ∷ (codes "diagonal", keys.Diagonal)
    ∷ (codes "before", keys.Before) ∷ []

-- the small words of properties, and the words of the loop
abbrev pub nesting : List (List ℕ × Keyword)
nesting =
    (codes "of", keys.Of) ∷ (codes "by", keys.By) ∷ (codes "loop", keys.Loop) ∷ (codes "for", keys.For) ∷ (codes "in", keys.In)
    ∷ (codes "when", keys.When) ∷ (codes "set", keys.Set) ∷ (codes "end", keys.End) ∷ []

-- the word that declares a local, and the words of the lesser and the greater
abbrev pub keeping : List (List ℕ × Keyword)
keeping = (codes "local", keys.Local) ∷ (codes "min", keys.Min) ∷ (codes "max", keys.Max) ∷ []

-- words that are reserved and stand in no form of a line
abbrev pub unused : List (List ℕ × Keyword)
unused = (codes "down", keys.Down) ∷ (codes "block", keys.Block) ∷ []

abbrev pub lookup : List ℕ → List (List ℕ × Keyword) → Option Keyword
lookup w [] = None
lookup w (entry ∷ more) = if bytes_eq w entry.0 then Some entry.1 else lookup w more

abbrev pub either : {A : Type 0} → Option A → Option A → Option A
either first second = or_else first (λ x. Some x) second

abbrev pub keyword : List ℕ → Option Keyword
keyword w = either (lookup w declaring) (either (lookup w relating) (either (lookup w nesting) (either (lookup w keeping) (lookup w unused))))

-- at most 9223372036854775807
abbrev pub number : Option ℕ → Option Token
number None = None
number (Some n) = if nat_lt n (2 ^ 63) then Some (tokens.Number n) else None

-- at most 19 digits
abbrev pub digits_token : List ℕ → Option Token
digits_token w = if bytes_eq w (codes "0") then Some tokens.Zero else (if bytes_eq w (codes "1") then Some tokens.One else (if nat_le (length w) 19 then number (natural w) else None))

-- a letter and up to 15 bytes more
abbrev pub name_form : List ℕ → Option (List ℕ)
name_form w = if begins_with_letter w && nat_le (length w) 16 then Some w else None

abbrev pub letters_token : List ℕ → Option Token
letters_token w = if bytes_eq w (codes "n") then Some tokens.N else (if bytes_eq w (codes "nnz") then Some tokens.Nnz else or_else (keyword w) (λ k. Some (tokens.Word k)) (name_form w >>= λ name. Some (tokens.Name name)))

-- what a run of letters, digits and `_` is
abbrev pub word_token : List ℕ → Option Token
word_token [] = None
word_token (b ∷ bs) = if is_digit b then digits_token (b ∷ bs) else letters_token (b ∷ bs)

abbrev pub as_name : Token → Option (List ℕ)
as_name (tokens.Name name) = Some name
as_name _ = None

-- a name, and a word of the form of a name after a point
abbrev pub dotted : List ℕ → List ℕ → Option Token
dotted a b = word_token a >>= λ t. as_name t >>= λ matrix. name_form b >>= λ part. Some (tokens.Dotted matrix part)
