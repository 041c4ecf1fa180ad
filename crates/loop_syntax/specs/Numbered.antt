-- The lines of a text that have words, with their numbers.
use Rattle.std.specs.Prelude.{ℕ, ◌+◌, List, [], ◌∷◌, Option, Some, None}
use Rattle.loop_lines.specs.declared.line.Line.{Line}
use Rattle.loop_lines.specs.Fitting.{text_line}
use Rattle.loop_syntax.specs.declared.numbered.Numbered.{Numbered}

-- a line without words, and one of no form, is none
abbrev pub worded : Option (Option Line) → Option Line
worded None = None
worded (Some l) = l

abbrev pub before : ℕ → Option Line → List Numbered → List Numbered
before n None more = more
before n (Some l) more = record { number = n; line = l } ∷ more

-- the lines of a text with numbers from n on; those without words count
abbrev pub numbered_from : ℕ → List (List ℕ) → List Numbered
numbered_from n [] = []
numbered_from n (l ∷ ls) = before n (worded (text_line l)) (numbered_from (n + 1) ls)

abbrev pub numbered : List (List ℕ) → List Numbered
numbered = numbered_from 1
