-- What the text of a line reads back as.
use Rattle.std.specs.Prelude.{◌≡◌, ℕ, ◌≤◌, Bool, true, ◌&&◌, not, ◌==◌, length, List, ◌++◌, Some}
use Rattle.std.specs.List.{list_all}
use Rattle.text_base.specs.Words.{is_blank}
use Rattle.loop_lines.specs.declared.line.Line.{Line}
use Rattle.loop_lines.specs.Fitting.{text_line}
use Rattle.loop_lines.specs.Shown.{shown_line}

-- neither a line feed nor a carriage return
abbrev pub is_inner : ℕ → Bool
is_inner byte = not (byte == 10) && not (byte == 13)

-- a text that ends no line
abbrev pub IsInner : List ℕ → Type 0
IsInner text = list_all is_inner text ≡ true

-- spaces and tabs
abbrev pub AreBlanks : List ℕ → Type 0
AreBlanks blanks = list_all is_blank blanks ≡ true

-- After any blanks the text of a line ends no line, and is read as that line if it isn't too long.
pub record ReadsBack (l : Line) : Type 0 where
  pub inner : (blanks : List ℕ) → AreBlanks blanks → IsInner (blanks ++ shown_line l)
  pub same : (blanks : List ℕ) → AreBlanks blanks → length (blanks ++ shown_line l) ≤ 200 → text_line (blanks ++ shown_line l) ≡ Some (Some l)
