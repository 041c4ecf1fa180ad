-- A list of rows without the repeats that stand side by side.
use Rattle.std.specs.Prelude.{◌==◌, Bool, false, cond, List, [], ◌∷◌}
use Rattle.wave_base.specs.declared.types.RowId.{RowId}

-- whether the list begins with this row
abbrev pub begins_with : RowId → List RowId → Bool
begins_with row [] = false
begins_with row (next ∷ rows) = row.0 == next.0

-- of rows that repeat side by side the last one stays
abbrev pub distinct : List RowId → List RowId
distinct [] = []
distinct (row ∷ rows) = cond (begins_with row rows) (distinct rows) (row ∷ distinct rows)
