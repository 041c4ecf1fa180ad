-- Words that are copied into lists of values.
use Rattle.std.specs.Prelude.{◌≡◌, ℕ, ℤ, pos, ◌+◌, ◌<◌, ◌≤◌, List, length, slice_index_or}
use Rattle.core_words.specs.WordsOf.{list_of}
use Rattle.done_words.specs.WordsOf.{value_of}

-- the first so many places of an array hold the values of the words from `first` on, and all else is as before
pub record AreCopied (words : List ℕ) (first size array : ℕ) (before after : List (List ℤ)) : Type 0 where
  pub copied : (at : ℕ) → at < size → slice_index_or (list_of after array) at (pos 0) ≡ value_of (slice_index_or words (first + at) 0)
  pub beyond : (at : ℕ) → size ≤ at → slice_index_or (list_of after array) at (pos 0) ≡ slice_index_or (list_of before array) at (pos 0)
  pub others : (other : ℕ) → (other ≡ array → ⊥) → list_of after other ≡ list_of before other
  pub long : length (list_of after array) ≡ length (list_of before array)
  pub lists : length after ≡ length before
