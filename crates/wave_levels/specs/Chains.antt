-- Chains of rows, each of which stands before the next.
use Rattle.std.specs.Prelude.{◌≡◌, ℕ, ◌+◌, ◌-◌, ◌<◌, ◌≤◌, List, length, Contains, slice_index_or}
use Rattle.wave_base.specs.declared.types.RowId.{RowId}
use Rattle.row_graph.specs.Rows.{row_zero}
use Rattle.row_graph.specs.Predecessors.{before}
use Rattle.wave_levels.specs.Levels.{above, level_at}

-- the row at a place
abbrev pub at_place : List RowId → ℕ → RowId
at_place rows k = slice_index_or rows k row_zero

-- each row stands before the next
abbrev pub IsChain : List (List RowId) → List RowId → Type 0
IsChain graph rows =
    (k : ℕ) → k + 1 < length rows → Contains (before graph (at_place rows (k + 1)).0) (at_place rows k)

-- the list has rows, and this one is the last
abbrev pub EndsAt : List RowId → RowId → Type 0
EndsAt rows last = (0 < length rows) × (at_place rows (length rows - 1) ≡ last)

-- some chain that ends at the row has this many edges, and none has more
pub record IsLongest (graph : List (List RowId)) (last : RowId) (edges : ℕ) : Type 0 where
  pub attained : (rows : List RowId) × IsChain graph rows × EndsAt rows last × (length rows ≡ edges + 1)
  pub not_passed : (rows : List RowId) → IsChain graph rows → EndsAt rows last → length rows ≤ edges + 1

-- the chain has one row of each level. It ends at the least row of the greatest level, and before
-- each row stands the least of its predecessors that are one level lower
pub record IsLeastChain (graph : List (List RowId)) (levels : List ℕ) (rows : List RowId) : Type 0 where
  pub full : length rows ≡ above levels
  pub last_row : 0 < length rows → (at_place rows (length rows - 1)).0 < length levels
  pub last_level : 0 < length rows → level_at levels (at_place rows (length rows - 1)) + 1 ≡ above levels
  pub last_least : (r : RowId) → r.0 < length levels → level_at levels r + 1 ≡ above levels → (at_place rows (length rows - 1)).0 ≤ r.0
  pub linked : IsChain graph rows
  pub lower : (k : ℕ) → k + 1 < length rows → level_at levels (at_place rows k) + 1 ≡ level_at levels (at_place rows (k + 1))
  pub least : (k : ℕ) (i : RowId) → k + 1 < length rows → Contains (before graph (at_place rows (k + 1)).0) i → level_at levels i + 1 ≡ level_at levels (at_place rows (k + 1)) → (at_place rows k).0 ≤ i.0
