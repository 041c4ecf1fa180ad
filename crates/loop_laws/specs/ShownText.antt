-- The canonical texts of the lines of a nest, and the place of a line among them.
use Rattle.std.specs.Prelude.{◌≤◌, ℕ, zero, suc, nat_le, codes, List, [], ◌∷◌, ◌++◌, length}
use Rattle.std.specs.List.{filter}
use Rattle.loop_lines.specs.declared.line.Line.{Line}
use Rattle.loop_lines.specs.declared.line.Line.TheVariants as lines
use Rattle.loop_lines.specs.Shown.{shown_line}
use Rattle.loop_syntax.specs.declared.numbered.Numbered.{Numbered}

-- two spaces for each open block
abbrev pub margin : ℕ → List ℕ
margin zero = []
margin (suc blocks) = codes "  " ++ margin blocks

abbrev pub one_less : ℕ → ℕ
one_less zero = zero
one_less (suc blocks) = blocks

-- how many blocks are open after a line
abbrev pub blocks_behind : ℕ → Line → ℕ
blocks_behind blocks (lines.Loop name) = suc blocks
blocks_behind blocks (lines.For name lo hi) = suc blocks
blocks_behind blocks (lines.When rel left right) = suc blocks
blocks_behind blocks lines.End = one_less blocks
blocks_behind blocks _ = blocks

-- a line stands inside the open blocks, and the end of a block below its first line
abbrev pub blocks_round : ℕ → Line → ℕ
blocks_round blocks lines.End = one_less blocks
blocks_round blocks _ = blocks

-- the canonical texts of lines inside so many open blocks
abbrev pub shown_lines : ℕ → List Numbered → List (List ℕ)
shown_lines blocks [] = []
shown_lines blocks (l ∷ ls) = (margin (blocks_round blocks l.line) ++ shown_line l.line) ∷ shown_lines (blocks_behind blocks l.line) ls

-- the text that has these lines
abbrev pub unlines : List (List ℕ) → List ℕ
unlines [] = []
unlines (l ∷ ls) = l ++ 10 ∷ unlines ls

-- no line has more than 200 bytes
abbrev pub AreShort : List (List ℕ) → Type 0
AreShort [] = Unit {0}
AreShort (l ∷ ls) = (length l ≤ 200) × AreShort ls

-- how many lines there are up to a number, which is the number that a line has among them
abbrev pub place : List Numbered → ℕ → ℕ
place ls number = length (filter (λ l. nat_le l.number number) ls)
