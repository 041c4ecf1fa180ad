-- How many verdicts there are of each kind, and how many tasks and waits a schedule has.
use Rattle.std.specs.Prelude.{ℕ, ◌+◌, Bool, true, false, List, [], ◌∷◌, length, count_by, sum_by}
use Rattle.sched_types.specs.declared.sched.Sched.{Sched}
use Rattle.sched_types.specs.declared.sched.Task.{Task}
use Rattle.dep_simplify.specs.declared.verdict.Verdict.{Verdict}
use Rattle.dep_simplify.specs.declared.verdict.Verdict.TheVariants.{Dropped, Covered, Kept}

abbrev pub is_dropped : Verdict → Bool
is_dropped (Dropped cert) = true
is_dropped (Covered number) = false
is_dropped Kept = false

abbrev pub is_covered : Verdict → Bool
is_covered (Dropped cert) = false
is_covered (Covered number) = true
is_covered Kept = false

abbrev pub is_kept : Verdict → Bool
is_kept (Dropped cert) = false
is_kept (Covered number) = false
is_kept Kept = true

abbrev pub tasks_in : Sched → ℕ
tasks_in sched = sum_by (λ (tasks : List Task). length tasks) sched.workers

abbrev pub waits_of : List Task → ℕ
waits_of tasks = sum_by (λ (task : Task). length task.waits) tasks

abbrev pub waits_in : Sched → ℕ
waits_in sched = sum_by waits_of sched.workers
