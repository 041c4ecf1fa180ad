-- The workers' scripts.
use Rattle.std.specs.Prelude.{ℕ, suc, Bool, true, false, List, [], ◌∷◌, ◌++◌, map, Option, Some, None, slice_get, slice_index_or}
use Rattle.std.specs.List.{flat_map}
use Rattle.wave_base.specs.declared.types.RowId.{RowId}
use Rattle.wave_base.specs.declared.types.Cell.{Cell}
use Rattle.sched_types.specs.declared.lists.Wait.{Wait}
use Rattle.sched_types.specs.declared.sched.Task.{Task}
use Rattle.sched_types.specs.Order.{tasks_of}
use Rattle.core_law.specs.Works.{Instance, Work}
use Rattle.core_law.specs.Numbers.{first}

-- A read and a write say whether they are the first action of their row, and name the number of their instance.
pub data Action : Type 0 where
  look : (worker count : ℕ) → Action
  read : (begins : Bool) (g : ℕ) (cell : Cell) → Action
  write : (begins : Bool) (g : ℕ) (cell : Cell) → Action
  finish : Action

abbrev pub write_of : ℕ → Option Cell → List Action
write_of g None = []
write_of g (Some cell) = write false g cell ∷ []

abbrev pub actions : ℕ → Instance → List Action
actions g s = map (read false g) s.reads ++ write_of g s.target

-- the actions of instances that are numbered from g on
abbrev pub numbered : ℕ → List Instance → List Action
numbered g [] = []
numbered g (s ∷ more) = actions g s ++ numbered (suc g) more

abbrev pub beginning : Action → Action
beginning (look f n) = look f n
beginning (read _ g cell) = read true g cell
beginning (write _ g cell) = write true g cell
beginning finish = finish

abbrev pub begun : List Action → List Action
begun [] = []
begun (a ∷ more) = beginning a ∷ more

abbrev pub row_actions : Work → RowId → List Action
row_actions w r = begun (numbered (first w r.0) (slice_index_or w.rows r.0 []))

abbrev pub looks : Task → List Action
looks t = map (λ (wait : Wait). look wait.worker wait.count) t.waits

abbrev pub task_actions : Work → Task → List Action
task_actions w t = looks t ++ (flat_map (row_actions w) t.rows ++ finish ∷ [])

abbrev pub script : Work → ℕ → List Action
script w k = flat_map (task_actions w) (tasks_of w.workers k)

-- the action at a place
abbrev pub next : Work → ℕ → ℕ → Option Action
next w k p = slice_get (script w k) p
