-- Rows that are grouped by level.
use Rattle.std.specs.Prelude.{◌≡◌, ℕ, ◌<◌, ◌^◌, List, [], length, slice_index_or}
use Rattle.wave_base.specs.declared.types.RowId.{RowId}
use Rattle.wave_levels.specs.Levels.{above, rows_at}

-- there is one list for each level, with its rows
abbrev pub AreGrouped : List ℕ → List (List RowId) → Type 0
AreGrouped levels lists =
    (length levels < 2 ^ 32) × (above levels < 2 ^ 32) × (length lists ≡ above levels) × ((level : ℕ) → level < above levels → slice_index_or lists level [] ≡ rows_at levels level)
