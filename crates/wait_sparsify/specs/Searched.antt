-- Numbered tasks as a search finds them: one test for each two of them.
use Rattle.std.specs.Prelude.{◌≡◌, ◌↔◌, ℕ, ◌<◌, ◌⊎◌, List, [], Contains, length, slice_index, slice_index_or}
use Rattle.wave_base.specs.declared.types.RowId.{RowId}
use Rattle.row_graph.specs.Rows.{row}
use Rattle.row_graph.specs.Predecessors.{before, AreAscending}

-- the numbers below one that have a property, ascending
pub record AreSelected (P : ℕ → Type 0) (top : ℕ) (list : List RowId) : Type 0 where
  pub members : (r : RowId) → Contains list r ↔ ((r.0 < top) × P r.0)
  pub ascending : AreAscending list

-- one of these rows stands before a row
abbrev pub SomeBefore : List RowId → List RowId → Type 0
SomeBefore before_row rows = (i : RowId) × Contains rows i × Contains before_row i

-- some row of the one list stands before some row of the other
abbrev pub Joins : List (List RowId) → List RowId → List RowId → Type 0
Joins graph firsts seconds = (j : RowId) × Contains seconds j × SomeBefore (before graph j.0) firsts

-- a row of one task and a later row of another, on different workers
abbrev pub Crosses : List (List RowId) → List ℕ → List (List RowId) → ℕ → ℕ → Type 0
Crosses graph owners rows l k =
    (slice_index owners k ≡ slice_index owners l → ⊥) × Joins graph (slice_index_or rows k []) (slice_index_or rows l [])

-- one task before another: on different workers, or on one
abbrev pub IsNext : List (List RowId) → List ℕ → ℕ → ℕ → Type 0
IsNext cross owners k l =
    Contains (slice_index_or cross l []) (row k) ⊎ ((slice_index owners k ≡ slice_index owners l) × (k < l) × (l < length cross))

-- a task between two others
abbrev pub IsBetween : List (List RowId) → List ℕ → ℕ → ℕ → ℕ → Type 0
IsBetween cross owners k l m = IsNext cross owners k m × IsNext cross owners m l

abbrev pub SomeBetween : List (List RowId) → List ℕ → ℕ → ℕ → Type 0
SomeBetween cross owners k l = (m : ℕ) × IsBetween cross owners k l m

-- with no task between
abbrev pub IsNeeded : List (List RowId) → List ℕ → ℕ → ℕ → Type 0
IsNeeded cross owners l k =
    Contains (slice_index_or cross l []) (row k) × (SomeBetween cross owners k l → ⊥)

-- for each number the numbers below one that have a property with it
abbrev pub AreSelectedLists : (ℕ → ℕ → Type 0) → ℕ → List (List RowId) → Type 0
AreSelectedLists P top lists =
    (length lists ≡ top) × ((l : ℕ) → l < top → AreSelected (P l) top (slice_index_or lists l []))
