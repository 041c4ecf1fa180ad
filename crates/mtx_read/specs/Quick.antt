-- What the quick readers of a line find.
use Rattle.std.specs.Prelude.{◌≡◌, ℕ, List, Some}
use Rattle.text_base.specs.Words.{after_blanks}
use Rattle.text_base.specs.Quick.{quick_gap, quick_natural}

-- two plain numbers at the front of a text, blanks before and between them, and the text after them
pub record AreTwoNumbers (text : List ℕ) (first second : ℕ) (rest : List ℕ) : Type 0 where
  pub after_first : List ℕ
  pub at_second : List ℕ
  pub one : quick_natural (after_blanks text) ≡ Some (first, after_first)
  pub gap : quick_gap after_first ≡ Some at_second
  pub two : quick_natural at_second ≡ Some (second, rest)
