-- Pairs of numbered tasks on different workers.
use Rattle.std.specs.Prelude.{ℕ, ◌==◌, ◌+◌, cond, List, [], ◌∷◌, ◌++◌, slice_index}
use Rattle.wave_base.specs.declared.types.RowId.{RowId}
use Rattle.row_graph.specs.Predecessors.{before}
use Rattle.row_graph.specs.Rows.{row}

-- the tasks of some rows, each beside a later task, where their workers differ
abbrev pub crossing : List ℕ → List ℕ → ℕ → List RowId → List (RowId × RowId)
crossing owners tasks task [] = []
crossing owners tasks task (i ∷ rows) = cond (slice_index owners (slice_index tasks i.0) == slice_index owners task) (crossing owners tasks task rows) ((row (slice_index tasks i.0), row task) ∷ crossing owners tasks task rows)

-- the same for all rows before these ones
abbrev pub crossing_rows : List (List RowId) → List ℕ → List ℕ → ℕ → List RowId → List (RowId × RowId)
crossing_rows graph owners tasks task [] = []
crossing_rows graph owners tasks task (j ∷ rows) = crossing owners tasks task (before graph j.0) ++ crossing_rows graph owners tasks task rows

-- the same for the rows of each task; tasks count from a first number
abbrev pub crossing_lists : List (List RowId) → List ℕ → List ℕ → ℕ → List (List RowId) → List (RowId × RowId)
crossing_lists graph owners tasks task [] = []
crossing_lists graph owners tasks task (rows ∷ lists) = crossing_rows graph owners tasks task rows ++ crossing_lists graph owners tasks (task + 1) lists
