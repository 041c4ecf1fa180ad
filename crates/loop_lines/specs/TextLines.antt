-- The lines of a text and what they say, by the grammar.
use Rattle.std.specs.Prelude.{◌≡◌, ℕ, ◌≤◌, true, length, List, Option, Some, None}
use Rattle.text_base.specs.Lines.{trimmed}
use Rattle.loop_lines.specs.declared.token.Token.{Token}
use Rattle.loop_lines.specs.declared.line.Line.{Line}
use Rattle.loop_lines.specs.Tokens.{line_tokens}
use Rattle.loop_lines.specs.Lines.{IsLine}
use Rattle.loop_lines.specs.Fitting.{is_skipped}

-- the words and signs of a text are a line of the grammar
pub record IsWorded (text : List ℕ) (l : Line) : Type 0 where
  pub words : List Token
  pub are : line_tokens text ≡ Some words
  pub line : IsLine words l

-- a text without words or a comment says nothing
abbrev pub Says : List ℕ → Option Line → Type 0
Says text None = is_skipped text ≡ true
Says text (Some l) = IsWorded text l

-- a line without its line feed and what it says: it has at most 200 bytes, a carriage return at its end aside
pub record IsTextLine (line : List ℕ) (said : Option Line) : Type 0 where
  pub short : length (trimmed line) ≤ 200
  pub says : Says (trimmed line) said
