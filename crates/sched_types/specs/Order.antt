-- The order that a schedule's tasks have.
use Rattle.std.specs.Prelude.{◌≡◌, ℕ, ◌+◌, ◌<◌, List, [], Contains, length, slice_get, slice_index_or, Some}
use Rattle.sched_types.specs.declared.sched.Task.{Task}

-- a task, by its worker and its place among that worker's tasks
pub record Spot : Type 0 where
  pub worker : ℕ
  pub at : ℕ

-- the tasks of a worker
abbrev pub tasks_of : {X : Type 0} → List (List X) → ℕ → List X
tasks_of workers worker = slice_index_or workers worker []

-- the task of a spot
abbrev pub IsAt : {X : Type 0} → List (List X) → Spot → X → Type 0
IsAt workers spot task = slice_get (tasks_of workers spot.worker) spot.at ≡ Some task

-- the wait of the task at a spot is for the task at another
abbrev pub Waits : List (List Task) → Spot → Spot → Type 0
Waits workers first second =
    (task : Task) × IsAt workers second task × Contains task.waits (record { worker = first.worker; count = first.at + 1 })

-- one task comes before another: on one worker, by a wait, or through a third task
pub data Before (workers : List (List Task)) : Spot → Spot → Type 0 where
  by_worker : {worker i j : ℕ} → i < j → j < length (tasks_of workers worker) → Before workers (record { worker = worker; at = i }) (record { worker = worker; at = j })
  by_wait : {first second : Spot} → Waits workers first second → Before workers first second
  through : {first second third : Spot} → Before workers first second → Before workers second third → Before workers first third
