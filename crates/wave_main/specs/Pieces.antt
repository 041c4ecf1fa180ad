-- The texts of words of a line.
use Rattle.std.specs.Prelude.{ℕ, ◌≤◌, List, length, map, decimal}
use Rattle.std.specs.Fmt.{signed_decimal}
use Rattle.wave_main.specs.declared.line.Piece.{Piece}
use Rattle.wave_main.specs.declared.line.Piece.TheVariants.{Text, Number, Signed}

abbrev pub piece_text : Piece → List ℕ
piece_text (Text text) = text.now
piece_text (Number number) = decimal number
piece_text (Signed number) = signed_decimal number

abbrev pub texts_of : List Piece → List (List ℕ)
texts_of pieces = map piece_text pieces

-- a number of 64 bits has at most twenty characters
abbrev pub IsShort : Piece → Type 0
IsShort (Text text) = length text.now ≤ 20
IsShort (Number number) = Unit {0}
IsShort (Signed number) = Unit {0}
