-- One value written at each of some places.
use Rattle.std.specs.Prelude.{ℕ, ◌+◌, List, [], ◌∷◌, slice_set}
use Rattle.wave_base.specs.declared.types.RowId.{RowId}

-- the numbers after a value is written at each of these rows
abbrev pub written : ℕ → List RowId → List ℕ → List ℕ
written value [] numbers = numbers
written value (r ∷ rows) numbers = written value rows (slice_set numbers r.0 value)

-- the numbers after each list's own number is written at its rows; lists count from a first number
abbrev pub written_lists : ℕ → List (List RowId) → List ℕ → List ℕ
written_lists number [] numbers = numbers
written_lists number (rows ∷ lists) numbers = written_lists (number + 1) lists (written number rows numbers)
