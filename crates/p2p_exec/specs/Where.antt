-- Where a worker stands in its script.
use Rattle.std.specs.Prelude.{◌≡◌, ℕ, suc, ◌+◌, ◌<◌, ◌≤◌, List, length, Option, Some, None, slice_get}
use Rattle.sched_types.specs.declared.sched.Task.{Task}
use Rattle.sched_types.specs.Order.{tasks_of}
use Rattle.loop_core.specs.Shape.{is_target}
use Rattle.core_law.specs.Scripts.{finish, next}
use Rattle.core_law.specs.Standing.{task_start, finished}
use Rattle.core_value.specs.Taken.{flagged}
use Rattle.core_machine.specs.declared.work.Work.{Work}
use Rattle.core_machine.specs.FitWork.{plain}
use Rattle.done_words.specs.declared.view.View.{View}
use Rattle.done_words.specs.Views.{IsAbout, number_of, place_of}
use Rattle.p2p_exec.specs.declared.worker.Worker.{Worker}

-- the tasks of a worker
abbrev pub tasks : Work → ℕ → List Task
tasks w k = tasks_of w.sched.workers k

-- how many looks a task has
abbrev pub looks_of : Option Task → ℕ
looks_of None = 0
looks_of (Some t) = length t.waits

-- The worker stands at the place of its seat: past so many looks of its task, or at its script's end after the last one.
-- It knows which arrays the nest writes.
pub record IsAt (w : Work) (t : Worker) (v : View) : Type 0 where
  pub about : IsAbout w v
  pub number : number_of v ≡ suc t.number
  pub there : t.number < length w.sched.workers
  pub within : t.task ≤ length (tasks w t.number)
  pub looks : t.looked ≤ looks_of (slice_get (tasks w t.number) t.task)
  pub place : place_of v ≡ task_start (plain w) (record { worker = t.number; at = t.task }) + t.looked
  pub written : flagged t.written.items ≡ is_target w.nest

-- from the place p the next finish of the worker k was made, and nothing after it
pub record IsPastNextFinish (w : Work) (k p q : ℕ) : Type 0 where
  pub at : ℕ
  pub from : p ≤ at
  pub is_finish : next (plain w) k at ≡ Some finish
  pub first : finished (plain w) k at ≡ finished (plain w) k p
  pub past : q ≡ suc at
