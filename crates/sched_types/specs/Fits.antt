-- A schedule that fits the dependences of rows.
use Rattle.std.specs.Prelude.{◌≡◌, ℕ, ◌<◌, ◌≤◌, List, Contains, length, slice_get, Some}
use Rattle.wave_base.specs.declared.types.RowId.{RowId}
use Rattle.sched_types.specs.declared.lists.Wait.{Wait}
use Rattle.sched_types.specs.declared.sched.Task.{Task}
use Rattle.sched_types.specs.Order.{Spot, tasks_of, IsAt, Before}

-- a row stands at a place of the task of a spot
abbrev pub Stands : List (List Task) → RowId → Spot → ℕ → Type 0
Stands workers row spot at = (task : Task) × IsAt workers spot task × (slice_get task.rows at ≡ Some row)

pub record Fits (rows : ℕ) (Dep : RowId → RowId → Type 0) (workers : List (List Task)) : Type 0 where
  -- each row of a task is one of the rows, and no task is empty
  pub rows_alone : (row : RowId) (spot : Spot) (at : ℕ) → Stands workers row spot at → row.0 < rows
  pub none_empty : (spot : Spot) (task : Task) → IsAt workers spot task → 0 < length task.rows
  -- each row stands somewhere, and at one place alone
  pub stands : (row : RowId) → row.0 < rows → (spot : Spot) × (at : ℕ) × Stands workers row spot at
  pub once : (row : RowId) (spot other : Spot) (at other_at : ℕ) → Stands workers row spot at → Stands workers row other other_at → (spot ≡ other) × (at ≡ other_at)
  -- where two rows are dependent, the task of the first comes before the task of the second
  pub ordered : (i j : RowId) → Dep i j → (first second : Spot) (at other_at : ℕ) → Stands workers i first at → Stands workers j second other_at → Before workers first second
  -- each wait is for a worker of the schedule, and for some of its tasks
  pub waits_stand : (spot : Spot) (task : Task) (wait : Wait) → IsAt workers spot task → Contains task.waits wait → (wait.worker < length workers) × (1 ≤ wait.count) × (wait.count ≤ length (tasks_of workers wait.worker))
  -- levels rise along each worker's tasks, and from a task that is waited for to the one that waits
  pub levels_rise : (worker i j : ℕ) (first second : Task) → i < j → IsAt workers (record { worker = worker; at = i }) first → IsAt workers (record { worker = worker; at = j }) second → first.level < second.level
  pub waits_rise : (spot : Spot) (task first : Task) (wait : Wait) (at : ℕ) → IsAt workers spot task → Contains task.waits wait → at < wait.count → IsAt workers (record { worker = wait.worker; at = at }) first → first.level < task.level
