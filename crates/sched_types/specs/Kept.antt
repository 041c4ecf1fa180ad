-- Which waits are kept.
use Rattle.std.specs.Prelude.{◌≡◌, ◌≢◌, ◌+◌, ◌<◌, ◌≤◌, ◌⊎◌, ◌↔◌, List, Contains, AllPairs, length, map}
use Rattle.wave_base.specs.declared.types.RowId.{RowId}
use Rattle.sched_types.specs.declared.lists.Wait.{Wait}
use Rattle.sched_types.specs.declared.sched.Task.{Task}
use Rattle.sched_types.specs.declared.sched.RowTask.{RowTask}
use Rattle.sched_types.specs.Order.{Spot, IsAt, tasks_of}

-- tasks on different workers, of which the first has a row on which a row of the second depends
abbrev pub IsCross : (RowId → RowId → Type 0) → List (List RowTask) → Spot → Spot → Type 0
IsCross Dep workers first second =
    (first.worker ≢ second.worker) × (u : RowTask) × (t : RowTask) × IsAt workers first u × IsAt workers second t × (i : RowId) × (j : RowId) × Contains u.rows i × Contains t.rows j × Dep i j

-- an earlier and a later task of one worker
abbrev pub IsEarlier : List (List RowTask) → Spot → Spot → Type 0
IsEarlier workers first second =
    (first.worker ≡ second.worker) × (first.at < second.at) × (second.at < length (tasks_of workers second.worker))

abbrev pub Plus : (RowId → RowId → Type 0) → List (List RowTask) → Spot → Spot → Type 0
Plus Dep workers first second = IsCross Dep workers first second ⊎ IsEarlier workers first second

-- a cross pair stays a wait where no task stands between the two
abbrev pub IsKept : (RowId → RowId → Type 0) → List (List RowTask) → Spot → Spot → Type 0
IsKept Dep workers first second =
    IsCross Dep workers first second × ((between : Spot) → Plus Dep workers first between → Plus Dep workers between second → ⊥)

-- the waits of the task at a spot are the kept ones, ascending by worker
pub record AreKeptWaits (Dep : RowId → RowId → Type 0) (workers : List (List RowTask)) (spot : Spot) (waits : List Wait) : Type 0 where
  pub ascending : AllPairs (λ (a : Wait) (b : Wait). a.worker < b.worker) waits
  pub some_task : (wait : Wait) → Contains waits wait → 1 ≤ wait.count
  pub kept_alone : (first : Spot) → Contains waits (record { worker = first.worker; count = first.at + 1 }) ↔ IsKept Dep workers first spot

-- a schedule has these tasks, and at each the kept waits
pub record HasKeptWaits (Dep : RowId → RowId → Type 0) (tasks : List (List RowTask)) (workers : List (List Task)) : Type 0 where
  pub same_tasks : map (λ ts. map (λ (t : Task). record { level = t.level; rows = t.rows }) ts) workers ≡ tasks
  pub waits : (spot : Spot) (task : Task) → IsAt workers spot task → AreKeptWaits Dep tasks spot task.waits
