-- The level of each row, and the rows of each level.
use Rattle.std.specs.Prelude.{◌≡◌, ◌==◌, ℕ, ◌+◌, ◌<◌, max, List, [], ◌∷◌, length, map, filter, slice_index}
use Rattle.std.specs.List.{range_with_len}
use Rattle.wave_base.specs.declared.types.RowId.{RowId}
use Rattle.row_graph.specs.Rows.{row}
use Rattle.row_graph.specs.Predecessors.{before}

-- the least number above all numbers of a list: 0 without numbers, else one more than the greatest
abbrev pub above : List ℕ → ℕ
above [] = 0
above (x ∷ xs) = max (x + 1) (above xs)

-- the level of a row
abbrev pub level_at : List ℕ → RowId → ℕ
level_at levels r = slice_index levels r.0

-- each row's level is 0 without predecessors, else one more than their greatest level
abbrev pub AreLevels : List (List RowId) → List ℕ → Type 0
AreLevels graph levels =
    (length levels ≡ length graph) × ((j : ℕ) → j < length graph → slice_index levels j ≡ above (map (level_at levels) (before graph j)))

-- the rows of a level, ascending
abbrev pub rows_at : List ℕ → ℕ → List RowId
rows_at levels level = map row (filter (λ j. slice_index levels j == level) (range_with_len 0 (length levels)))

-- a row beside its level
abbrev pub beside : List ℕ → ℕ → ℕ × RowId
beside levels j = (slice_index levels j, row j)

-- each row beside its level
abbrev pub levelled : List ℕ → List (ℕ × RowId)
levelled levels = map (beside levels) (range_with_len 0 (length levels))
