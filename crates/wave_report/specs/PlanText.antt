-- The printed chain, tasks and waits of a plan.
use Rattle.std.specs.Prelude.{ℕ, ◌+◌, List, [], ◌∷◌, ◌++◌, codes, decimal}
use Rattle.std.specs.List.{flat_map}
use Rattle.wave_base.specs.declared.types.RowId.{RowId}
use Rattle.sched_types.specs.declared.lists.Wait.{Wait}
use Rattle.sched_types.specs.declared.sched.Sched.{Sched}
use Rattle.sched_types.specs.declared.sched.Task.{Task}
use Rattle.wave_report.specs.Line.{line}

-- each row after a space
abbrev pub rows_text : List RowId → List ℕ
rows_text rows = flat_map (λ (row : RowId). codes " " ++ decimal row.0) rows

-- each wait after a space, as `WORKER:COUNT`
abbrev pub waits_text : List Wait → List ℕ
waits_text waits = flat_map (λ (wait : Wait). codes " " ++ decimal wait.worker ++ codes ":" ++ decimal wait.count) waits

-- `task rows ROW .. waits WORKER:COUNT ..`
abbrev pub task_text : Task → List ℕ
task_text task = line (codes "task rows" ++ rows_text task.rows ++ codes " waits" ++ waits_text task.waits)

-- `worker NUMBER`, and then a line for each of its tasks
abbrev pub worker_text : ℕ → List Task → List ℕ
worker_text number tasks = line (codes "worker " ++ decimal number) ++ flat_map task_text tasks

-- the text of each worker, with numbers from the first one on
abbrev pub workers_text : ℕ → List (List Task) → List ℕ
workers_text first [] = []
workers_text first (tasks ∷ more) = worker_text first tasks ++ workers_text (first + 1) more

-- `chain ROW ..`, and then the workers, numbered from 0
abbrev pub plan_text : List RowId → Sched → List ℕ
plan_text chain sched = line (codes "chain" ++ rows_text chain) ++ workers_text 0 sched.workers
