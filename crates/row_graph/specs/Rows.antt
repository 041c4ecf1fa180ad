-- Rows as values.
use Rattle.std.specs.Prelude.{ℕ}
use Rattle.wave_base.specs.declared.types.RowId.{RowId}

-- the row of a number
abbrev pub row : ℕ → RowId
row k = record { 0 = k }

-- the first row
abbrev pub row_zero : RowId
row_zero = row 0
