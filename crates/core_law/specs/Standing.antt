-- What is done in a state.
use Rattle.std.specs.Prelude.{◌≡◌, ℕ, suc, ◌+◌, ◌<◌, ◌≤◌, Bool, List, [], ◌∷◌, take, length, slice_index, Some}
use Rattle.std.specs.List.{flat_map}
use Rattle.wave_base.specs.declared.types.Cell.{Cell}
use Rattle.sched_types.specs.declared.sched.Task.{Task}
use Rattle.sched_types.specs.Order.{Spot, tasks_of, IsAt}
use Rattle.core_law.specs.Works.{Work}
use Rattle.core_law.specs.Scripts.{Action, look, read, write, finish, task_actions, script, next}
use Rattle.core_law.specs.Machine.{State, place}

-- how many tasks are finished within these actions
abbrev pub finishes : List Action → ℕ
finishes [] = 0
finishes (look f n ∷ more) = finishes more
finishes (read begins g cell ∷ more) = finishes more
finishes (write begins g cell ∷ more) = finishes more
finishes (finish ∷ more) = suc (finishes more)

-- how many tasks the worker k has finished where it stands at a place
abbrev pub finished : Work → ℕ → ℕ → ℕ
finished w k p = finishes (take p (script w k))

-- where a task begins in its worker's script
abbrev pub task_start : Work → Spot → ℕ
task_start w t = length (flat_map (task_actions w) (take t.at (tasks_of w.workers t.worker)))

-- a task is finished where its worker's count says so
abbrev pub IsFinished : State → Spot → Type 0
IsFinished c t = t.at < slice_index c.counts t.worker

-- its worker is past its last action
abbrev pub IsPassed : Work → State → Spot → Type 0
IsPassed w c t = (task : Task) × IsAt w.workers t task × (task_start w t + length (task_actions w task) ≤ place c t.worker)

-- the worker of the task is past the looks of the task, and so past the tasks before it
abbrev pub HasLooked : Work → State → Spot → Type 0
HasLooked w c t = (task : Task) × IsAt w.workers t task × (task_start w t + length task.waits ≤ place c t.worker)

-- the write of the instance g is made
abbrev pub Made : Work → State → ℕ → Type 0
Made w c g = (k : ℕ) × (p : ℕ) × (p < place c k) × (begins : Bool) × (cell : Cell) × (next w k p ≡ Some (write begins g cell))

abbrev pub HasEnded : Work → State → Type 0
HasEnded w c = (k : ℕ) → k < length w.workers → length (script w k) ≤ place c k

-- an action that isn't a look that would fail now
abbrev pub Passes : State → Action → Type 0
Passes c (look f n) = n ≤ slice_index c.counts f
Passes c (read begins g cell) = Unit {0}
Passes c (write begins g cell) = Unit {0}
Passes c finish = Unit {0}

abbrev pub CanStep : Work → State → ℕ → Type 0
CanStep w c k = (a : Action) × (next w k (place c k) ≡ Some a) × Passes c a
