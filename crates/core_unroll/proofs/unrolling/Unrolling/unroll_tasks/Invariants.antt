use Rattle.std.proofs.Common.{take, ℤ, List}
use Rattle.std.specs.List.{flat_map}
use Rattle.sched_types.specs.declared.sched.Task.{Task}
use Rattle.core_law.specs.Scripts.{task_actions}
use Rattle.core_nest.specs.NestLaws.{plain_work}
use Rattle.core_unroll.specs.Advances.{Advances, AreBelow, IsReady, rows_of}
use Rattle.core_unroll.proofs.unrolling.Unrolling.unroll_tasks.Given as goal

-- the tasks so far were put down
abbrev pub invariant-loop-task : goal.invariant-loop-task
invariant-loop-task l = (x : List (List ℤ)) (workers : List (List Task)) → IsReady l.nest l.arrays x workers l.initial.self → AreBelow l.arrays.n (flat_map rows_of l.tasks)
    → Advances (plain_work l.nest l.arrays x workers) l.initial.self (flat_map (task_actions (plain_work l.nest l.arrays x workers)) (take l.task-index l.tasks)) (flat_map rows_of (take l.task-index l.tasks)) l.self
