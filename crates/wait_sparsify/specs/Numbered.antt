-- Tasks by number: worker after worker, and each worker's tasks in their order.
use Rattle.std.specs.Prelude.{ℕ, ◌+◌, List, [], ◌∷◌, ◌++◌, length, map, replicate}
use Rattle.std.specs.List.{range_with_len}
use Rattle.wave_base.specs.declared.types.RowId.{RowId}
use Rattle.sched_types.specs.declared.sched.RowTask.{RowTask}

-- the worker of each task; workers count from a first number
abbrev pub owners_from : ℕ → List (List RowTask) → List ℕ
owners_from worker [] = []
owners_from worker (tasks ∷ lists) = replicate (length tasks) worker ++ owners_from (worker + 1) lists

-- the place of each task among its worker's tasks
abbrev pub places_from : List (List RowTask) → List ℕ
places_from [] = []
places_from (tasks ∷ lists) = range_with_len 0 (length tasks) ++ places_from lists

-- the rows of each task
abbrev pub rows_from : List (List RowTask) → List (List RowId)
rows_from [] = []
rows_from (tasks ∷ lists) = map (λ (t : RowTask). t.rows) tasks ++ rows_from lists
