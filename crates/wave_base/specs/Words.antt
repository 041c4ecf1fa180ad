-- Lists of words.
use Rattle.std.specs.Prelude.{ℤ, pos, negsuc, List, slice_index_or, slice_set}

-- the word at a place, and 0 outside the list
abbrev pub word_at : List ℤ → ℤ → ℤ
word_at list (pos at) = slice_index_or list at (pos 0)
word_at list (negsuc k) = pos 0

-- the list after a write, which does nothing outside the list
abbrev pub word_written : List ℤ → ℤ → ℤ → List ℤ
word_written list (pos at) word = slice_set list at word
word_written list (negsuc k) word = list
