-- Words that are a command's, and the first wrong or missing word of others.
use Rattle.std.specs.Prelude.{ℕ, ◌≤◌, IsTrue, if◌then◌else◌, List, [], ◌∷◌, ◌++◌, Option, Some, None, length, take, map, string_bytes, String}
use Rattle.std.specs.List.{list_any}
use Rattle.std.specs.declared.alloc.Global.{Global}
use Rattle.wave_words.specs.declared.form.Form.{Form}
use Rattle.wave_words.specs.Forms.{has_form}

-- the texts of words
abbrev pub texts : List (String Global) → List (List ℕ)
texts words = map string_bytes words

-- the form that words have: the first of these
abbrev pub asked : List Form → List (List ℕ) → Option Form
asked [] words = None
asked (form ∷ more) words = if has_form words form then Some form else asked more words

-- the words are those of a command of one of these forms
abbrev pub IsCommand : List Form → List (List ℕ) → Type 0
IsCommand forms words = IsTrue (list_any (has_form words) forms)

-- words that are the beginning of a command's words
abbrev pub IsBeginning : List Form → List (List ℕ) → Type 0
IsBeginning forms words = (more : List (List ℕ)) × IsCommand forms (words ++ more)

-- the words are no command's, and the longest prefix of them that is a command's beginning has this length
pub record IsUsageAt (forms : List Form) (words : List (List ℕ)) (place : ℕ) : Type 0 where
  pub refused : ¬ IsCommand forms words
  pub within : place ≤ length words
  pub begins : IsBeginning forms (take place words)
  pub longest : (k : ℕ) → k ≤ length words → IsBeginning forms (take k words) → k ≤ place
