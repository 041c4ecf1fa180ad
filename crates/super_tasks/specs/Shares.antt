-- The shares that workers have of each level.
use Rattle.std.specs.Prelude.{◌==◌, ◌≡◌, ℕ, ◌+◌, ◌*◌, ◌/◌, ◌^◌, ◌<◌, ◌≤◌, max, List, [], ◌∷◌, All, length, map, filter, take, sum_by, slice_index}
use Rattle.std.specs.List.{range_with_len, enumerate_from, flat_map}
use Rattle.wave_base.specs.declared.types.RowId.{RowId}
use Rattle.sched_types.specs.declared.sched.RowTask.{RowTask}
use Rattle.wave_levels.specs.Levels.{above, rows_at}

-- from 1 to 2^32
abbrev pub IsWeight : ℕ → Type 0
IsWeight weight = (1 ≤ weight) × (weight ≤ 2 ^ 32)

-- a weight for each row
abbrev pub AreWeights : ℕ → List ℕ → Type 0
AreWeights rows weights = (length weights ≡ rows) × All IsWeight weights

-- the weight of a row, and of some rows together
abbrev pub weight_at : List ℕ → RowId → ℕ
weight_at weights r = slice_index weights r.0

abbrev pub weight_of : List ℕ → List RowId → ℕ
weight_of weights rows = sum_by (weight_at weights) rows

-- the worker to whom the row at a place of a level goes: the weight of the rows before it times the
-- workers, by the weight of all rows
abbrev pub worker_at : List ℕ → ℕ → List RowId → ℕ → ℕ
worker_at weights workers rows place = weight_of weights (take place rows) * workers / weight_of weights rows

-- the rows that go to a worker
abbrev pub share : List ℕ → ℕ → List RowId → ℕ → List RowId
share weights workers rows worker =
    map (λ (e : ℕ × RowId). e.1) (filter (λ (e : ℕ × RowId). worker_at weights workers rows e.0 == worker) (enumerate_from 0 rows))

-- one task of a level for some rows, and none for none
abbrev pub task_of : ℕ → List RowId → List RowTask
task_of level [] = []
task_of level (row ∷ rows) = record { level = level; rows = row ∷ rows } ∷ []

-- a worker's task of a level
abbrev pub task_at : List ℕ → List ℕ → ℕ → ℕ → ℕ → List RowTask
task_at levels weights workers worker level = task_of level (share weights workers (rows_at levels level) worker)

-- a worker's tasks, by level
abbrev pub worker_tasks : List ℕ → List ℕ → ℕ → ℕ → List RowTask
worker_tasks levels weights workers worker = flat_map (task_at levels weights workers worker) (range_with_len 0 (above levels))

-- each worker's tasks
abbrev pub groups : List ℕ → List ℕ → ℕ → List (List RowTask)
groups levels weights workers = map (worker_tasks levels weights workers) (range_with_len 0 workers)

-- the greatest weight among some rows, and 0 without rows
abbrev pub greatest : List ℕ → List RowId → ℕ
greatest weights [] = 0
greatest weights (r ∷ rows) = max (weight_at weights r) (greatest weights rows)

-- the weight of a task times the workers is less than the weight of its level with, once for each
-- worker, the greatest weight in it
abbrev pub IsEven : List ℕ → List ℕ → ℕ → RowTask → Type 0
IsEven levels weights workers task =
    weight_of weights task.rows * workers < weight_of weights (rows_at levels task.level) + workers * greatest weights (rows_at levels task.level)

abbrev pub AreEven : List ℕ → List ℕ → ℕ → List (List RowTask) → Type 0
AreEven levels weights workers lists = All (λ tasks. All (IsEven levels weights workers) tasks) lists
