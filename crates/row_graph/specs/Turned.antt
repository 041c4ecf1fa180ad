-- Lists of rows read the other way round.
use Rattle.std.specs.Prelude.{ℕ, ◌+◌, List, [], ◌∷◌, ◌++◌, map}
use Rattle.wave_base.specs.declared.types.RowId.{RowId}
use Rattle.row_graph.specs.Rows.{row}

-- each row of each list, beside the number of its list, which counts from a first number
abbrev pub turned : ℕ → List (List RowId) → List (ℕ × RowId)
turned number [] = []
turned number (rows ∷ lists) = map (λ r. (r.0, row number)) rows ++ turned (number + 1) lists
