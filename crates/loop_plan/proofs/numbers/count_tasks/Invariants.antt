use Rattle.std.proofs.Common.{◌≡◌, ◌+◌, List, drop, length}
use Rattle.std.specs.Prelude.{sum_by}
use Rattle.sched_types.specs.declared.sched.Task.{Task}
use Rattle.loop_plan.specs.Numbers.{tasks_in, waits_in, waits_of}
use Rattle.loop_plan.proofs.numbers.count_tasks.Given as goal

-- the numbers so far and those of the workers left are the whole numbers
abbrev pub invariant-loop-tasks : goal.invariant-loop-tasks
invariant-loop-tasks l = record {
  tasks : l.counts.tasks + sum_by (λ (tasks : List Task). length tasks) (drop l.tasks-index l.sched.workers) ≡ tasks_in l.sched;
  waits : l.counts.waits + sum_by waits_of (drop l.tasks-index l.sched.workers) ≡ waits_in l.sched;
}
