-- Tasks, and the dependences between their rows.
use Rattle.std.specs.Prelude.{◌≡◌, ℕ, ◌<◌, ◌↔◌, List, Contains, AllPairs, length, slice_get, Some}
use Rattle.wave_base.specs.declared.types.RowId.{RowId}
use Rattle.row_graph.specs.Predecessors.{before}
use Rattle.sched_types.specs.declared.sched.RowTask.{RowTask}
use Rattle.sched_types.specs.Order.{Spot, IsAt}
use Rattle.sched_types.specs.Kept.{IsCross}

-- row j depends on row i
abbrev pub Depends : List (List RowId) → RowId → RowId → Type 0
Depends graph i j = Contains (before graph j.0) i

-- a row stands at a place of the task of a spot
abbrev pub StandsIn : List (List RowTask) → RowId → Spot → ℕ → Type 0
StandsIn tasks row spot at = (task : RowTask) × IsAt tasks spot task × (slice_get task.rows at ≡ Some row)

-- the tasks have these rows alone, and each of them at exactly one place
pub record ArePlaced (rows : ℕ) (tasks : List (List RowTask)) : Type 0 where
  pub rows_alone : (row : RowId) (spot : Spot) (at : ℕ) → StandsIn tasks row spot at → row.0 < rows
  pub stands : (row : RowId) → row.0 < rows → (spot : Spot) × (at : ℕ) × StandsIn tasks row spot at
  pub once : (row : RowId) (spot other : Spot) (at other_at : ℕ) → StandsIn tasks row spot at → StandsIn tasks row other other_at → (spot ≡ other) × (at ≡ other_at)

-- the number of cross pairs: some list has each of them once, and nothing else
pub record CountsCross (Dep : RowId → RowId → Type 0) (tasks : List (List RowTask)) (count : ℕ) : Type 0 where
  pub pairs : List (Spot × Spot)
  pub distinct : AllPairs (λ (a : Spot × Spot) (b : Spot × Spot). a ≡ b → ⊥) pairs
  pub cross_alone : (first second : Spot) → Contains pairs (first, second) ↔ IsCross Dep tasks first second
  pub long : length pairs ≡ count

-- no task is empty; levels rise along each worker's tasks, and from a task to each one that depends on it
pub record AreLevelled (Dep : RowId → RowId → Type 0) (tasks : List (List RowTask)) : Type 0 where
  pub none_empty : (spot : Spot) (task : RowTask) → IsAt tasks spot task → 0 < length task.rows
  pub rise : (worker i j : ℕ) (first second : RowTask) → i < j → IsAt tasks (record { worker = worker; at = i }) first → IsAt tasks (record { worker = worker; at = j }) second → first.level < second.level
  pub lower : (i j : RowId) → Dep i j → (first second : Spot) (u t : RowTask) → IsAt tasks first u → IsAt tasks second t → Contains u.rows i → Contains t.rows j → u.level < t.level
