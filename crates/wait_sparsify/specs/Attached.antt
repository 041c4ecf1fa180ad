-- Tasks with their waits.
use Rattle.std.specs.Prelude.{ℕ, ◌+◌, List, [], ◌∷◌, length, map, slice_index, slice_index_or}
use Rattle.wave_base.specs.declared.types.RowId.{RowId}
use Rattle.sched_types.specs.declared.lists.Wait.{Wait}
use Rattle.sched_types.specs.declared.sched.Task.{Task}
use Rattle.sched_types.specs.declared.sched.RowTask.{RowTask}

-- the wait for a numbered task
abbrev pub wait_for : List ℕ → List ℕ → RowId → Wait
wait_for owners places u = record { worker = slice_index owners u.0; count = slice_index places u.0 + 1 }

abbrev pub waits_for : List ℕ → List ℕ → List RowId → List Wait
waits_for owners places tasks = map (wait_for owners places) tasks

-- a task with waits
abbrev pub with_waits : List Wait → RowTask → Task
with_waits waits t = record { level = t.level; rows = t.rows; waits = waits }

-- the tasks of one worker; the first has a number
abbrev pub attached_list : List ℕ → List ℕ → List (List RowId) → ℕ → List RowTask → List Task
attached_list owners places kept number [] = []
attached_list owners places kept number (t ∷ tasks) =
    with_waits (waits_for owners places (slice_index_or kept number [])) t ∷ attached_list owners places kept (number + 1) tasks

abbrev pub attached : List ℕ → List ℕ → List (List RowId) → ℕ → List (List RowTask) → List (List Task)
attached owners places kept number [] = []
attached owners places kept number (tasks ∷ lists) =
    attached_list owners places kept number tasks ∷ attached owners places kept (number + length tasks) lists
