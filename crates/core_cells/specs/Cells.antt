-- Cells of arrays, and the words in them.
use Rattle.std.specs.Prelude.{◌≡◌, ℕ, ℤ, pos, ◌<◌, List, [], map, length, slice_index_or, slice_set}
use Rattle.wave_base.specs.declared.types.Cell.{Cell}

-- the word of a cell, and 0 outside the list
abbrev pub at_cell : List (List ℤ) → Cell → ℤ
at_cell x cell = slice_index_or (slice_index_or x cell.array.0 []) cell.at (pos 0)

-- the lists after a write, which does nothing outside the list
abbrev pub put : List (List ℤ) → Cell → ℤ → List (List ℤ)
put x cell word = slice_set x cell.array.0 (slice_set (slice_index_or x cell.array.0 []) cell.at word)

-- the cell is inside its list
abbrev pub IsInside : List (List ℤ) → Cell → Type 0
IsInside x cell = cell.at < length (slice_index_or x cell.array.0 [])

abbrev pub lengths : List (List ℤ) → List ℕ
lengths x = map (λ (l : List ℤ). length l) x

-- a write changes the word of its own cell alone, and no length
pub record IsPut (x : List (List ℤ)) (cell : Cell) (word : ℤ) : Type 0 where
  pub own : IsInside x cell → at_cell (put x cell word) cell ≡ word
  pub other : (q : Cell) → (cell ≡ q → ⊥) → at_cell (put x cell word) q ≡ at_cell x q
  pub long : lengths (put x cell word) ≡ lengths x
