-- The words of some arrays, one array after another.
use Rattle.std.specs.Prelude.{◌≡◌, ℕ, ℤ, pos, ◌+◌, ◌<◌, ◌==◌, if◌then◌else◌, List, [], ◌∷◌, length, slice_index_or, slice_set, Contains}
use Rattle.std.specs.List.{flat_map}
use Rattle.wave_base.specs.declared.types.Cell.{Cell}
use Rattle.core_cells.specs.Cells.{at_cell, put}

abbrev pub list_of : List (List ℤ) → ℕ → List ℤ
list_of x array = slice_index_or x array []

-- the words of these arrays
abbrev pub words_of : List ℕ → List (List ℤ) → List ℤ
words_of arrays x = flat_map (list_of x) arrays

-- how many words stand before the array's first
abbrev pub offset : List ℕ → List (List ℤ) → ℕ → ℕ
offset [] x array = 0
offset (b ∷ more) x array = if array == b then 0 else length (list_of x b) + offset more x array

-- no array stands twice
abbrev pub AreApart : List ℕ → Type 0
AreApart [] = Unit {0}
AreApart (b ∷ more) = (Contains more b → ⊥) × AreApart more

-- the number of a cell's word
abbrev pub word_place : List ℕ → List (List ℤ) → Cell → ℕ
word_place arrays x cell = offset arrays x cell.array.0 + cell.at

-- The word of a cell is its value, a write to the one is a write to the other, and the places stay.
pub record AreWords (arrays : List ℕ) (x : List (List ℤ)) (cell : Cell) : Type 0 where
  pub inside : word_place arrays x cell < length (words_of arrays x)
  pub word : slice_index_or (words_of arrays x) (word_place arrays x cell) (pos 0) ≡ at_cell x cell
  pub set : (v : ℤ) → slice_set (words_of arrays x) (word_place arrays x cell) v ≡ words_of arrays (put x cell v)
  pub stays : (v : ℤ) (other : Cell) → word_place arrays (put x cell v) other ≡ word_place arrays x other
