-- The lines of a loop file, and the least that doesn't fit.
use Rattle.std.specs.Prelude.{ℕ, zero, suc, ◌+◌, Bool, true, false, if◌then◌else◌, ◌==◌, nat_lt, length, List, [], ◌∷◌, Option, Some, None}
use Rattle.text_base.specs.Lines.{trimmed}
use Rattle.text_base.specs.Words.{after_blanks}
use Rattle.loop_lines.specs.declared.line.Line.{Line}
use Rattle.loop_lines.specs.declared.line.Line.TheVariants as lines
use Rattle.loop_lines.specs.declared.place.Place.{Place}
use Rattle.loop_lines.specs.declared.place.Place.TheVariants.{Heading, Inside, Behind}
use Rattle.loop_lines.specs.Reading.{◌>>=◌, or_else}
use Rattle.loop_lines.specs.Tokens.{line_tokens}
use Rattle.loop_lines.specs.LineReading.{line_at}

abbrev pub is_comment : List ℕ → Bool
is_comment [] = true
is_comment (b ∷ bs) = b == 35

-- without words, or a comment
abbrev pub is_skipped : List ℕ → Bool
is_skipped line = is_comment (after_blanks line)

abbrev pub formed : List ℕ → Option (Option Line)
formed line = line_tokens line >>= λ ts. line_at ts >>= λ l. Some (Some l)

-- what a line is without a carriage return at its end: at most 200 bytes, and skipped or of a form
abbrev pub text_line : List ℕ → Option (Option Line)
text_line line = if nat_lt 200 (length (trimmed line)) then None else (if is_skipped (trimmed line) then Some None else formed (trimmed line))

-- Above the loop stand declarations and properties, and exactly one matrix.
abbrev pub heading_after : Bool → Line → Option Place
heading_after false (lines.Matrix name form) = Some (Heading true)
heading_after matrix (lines.Index name size) = Some (Heading matrix)
heading_after matrix (lines.Vector name size source) = Some (Heading matrix)
heading_after matrix (lines.Local name) = Some (Heading matrix)
heading_after matrix (lines.Prop prop) = Some (Heading matrix)
heading_after true (lines.Loop name) = Some (Inside 0)
heading_after _ _ = None

-- Inside the loop stand loops, guards, statements and their ends.
abbrev pub body_after : ℕ → Line → Option Place
body_after blocks (lines.For name lo hi) = Some (Inside (blocks + 1))
body_after blocks (lines.When rel left right) = Some (Inside (blocks + 1))
body_after blocks (lines.Set array at value) = Some (Inside blocks)
body_after blocks (lines.Keep name value) = Some (Inside blocks)
body_after zero lines.End = Some Behind
body_after (suc k) lines.End = Some (Inside k)
body_after _ _ = None

-- After its end stands nothing.
abbrev pub place_after : Place → Line → Option Place
place_after (Heading matrix) l = heading_after matrix l
place_after (Inside blocks) l = body_after blocks l
place_after Behind l = None

abbrev pub moved : Place → Option Line → Option Place
moved place None = Some place
moved place (Some l) = place_after place l

abbrev pub next_place : Place → List ℕ → Option Place
next_place place line = text_line line >>= λ l. moved place l

-- a text ends after the loop's end
abbrev pub ending : Place → ℕ → Option ℕ
ending Behind n = None
ending _ n = Some n

-- the least line that doesn't fit, of lines with numbers from n on
abbrev pub misfit : Place → ℕ → List (List ℕ) → Option ℕ
misfit place n [] = ending place n
misfit place n (l ∷ ls) = or_else (next_place place l) (λ next. misfit next (n + 1) ls) (Some n)

abbrev pub start : Place
start = Heading false

abbrev pub open_blocks : Place → ℕ
open_blocks (Inside blocks) = blocks
open_blocks _ = 0
