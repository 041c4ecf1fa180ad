-- The rows that stand before each row.
use Rattle.std.specs.Prelude.{◌≡◌, ℕ, ◌<◌, ◌^◌, ◌↔◌, List, [], length, All, AllPairs, Contains, slice_index_or}
use Rattle.wave_base.specs.declared.types.RowId.{RowId}

-- the rows before row j
abbrev pub before : List (List RowId) → ℕ → List RowId
before graph j = slice_index_or graph j []

-- ascending, and so without repeats
abbrev pub AreAscending : List RowId → Type 0
AreAscending rows = AllPairs (λ (a : RowId) (b : RowId). a.0 < b.0) rows

-- the rows are numbered by 32 bits, and each row's predecessors are lesser rows, ascending
abbrev pub IsGraph : List (List RowId) → Type 0
IsGraph graph =
    (length graph < 2 ^ 32) × ((j : ℕ) → All (λ (i : RowId). i.0 < j) (before graph j)) × ((j : ℕ) → AreAscending (before graph j))

-- the rows before row j are those that stand before it in a pair, ascending and without repeats
pub record ArePredecessors (rows : ℕ) (pairs : List (RowId × RowId)) (graph : List (List RowId)) : Type 0 where
  pub each_row : length graph ≡ rows
  pub pairs_alone : (i j : RowId) → Contains (before graph j.0) i ↔ Contains pairs (i, j)
  pub ascending : (j : ℕ) → AreAscending (before graph j)

-- the rows before one row
pub record AreRowsBefore (pairs : List (RowId × RowId)) (last : RowId) (rows : List RowId) : Type 0 where
  pub pairs_alone : (i : RowId) → Contains rows i ↔ Contains pairs (i, last)
  pub ascending : AreAscending rows
