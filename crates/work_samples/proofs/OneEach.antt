-- A planned work has a list of tasks for each worker.
use Rattle.std.proofs.Common.{ℕ, ◌≡◌, ◌∙◌, List, length, map, ap, sym}
use Rattle.std.specs.Prelude.{Result, Ok, Err, IfOk}
use Rattle.std.proofs.lemmas.List.{length-map}
use Rattle.std.proofs.lemmas.List.FromFn.{length-map-range_with_len}
use Rattle.wave_base.specs.declared.types.RowId.{RowId}
use Rattle.sched_types.specs.declared.sched.RowTask.{RowTask}
use Rattle.sched_types.specs.declared.sched.Sched.{Sched}
use Rattle.sched_types.specs.declared.sched.Task.{Task}
use Rattle.super_tasks.specs.Shares.{worker_tasks}
use Rattle.plan_build.specs.declared.build.Built.{Built}
use Rattle.plan_build.specs.Plan.{IsPlan}
use Rattle.core_machine.specs.declared.work.Work.{Work}
use Rattle.work_samples.specs.declared.unfit.Unfit.{Unfit}
use Rattle.work_samples.specs.Works.{IsPlanned}

abbrev bares : List Task → List RowTask
bares ts = map (λ (t : Task). record { level = t.level; rows = t.rows }) ts

pub one_each : (rows : ℕ) (pairs : List (RowId × RowId)) (weights : List ℕ) (workers : ℕ) (built : Built) → IsPlan rows pairs weights workers built → length built.sched.workers ≡ workers
one_each rows pairs weights workers built plan =
    sym (length-map built.sched.workers bares)
    ∙ ap (λ (l : List (List RowTask)). length l) plan.waits.same_tasks
    ∙ length-map-range_with_len (worker_tasks plan.row_levels weights workers) 0 workers

pub one_list_each : (workers : ℕ) (made : Result Work Unfit) → IfOk made (IsPlanned workers) → IfOk made (λ work. length work.sched.workers ≡ workers)
one_list_each workers (Ok work) planned =
    ap (λ (s : Sched). length s.workers) planned.is_its ∙ one_each _ _ _ workers planned.built planned.is_plan.plan
one_list_each workers (Err why) planned = tt
