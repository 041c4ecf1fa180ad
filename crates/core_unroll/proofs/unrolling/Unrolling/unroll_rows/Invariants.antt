use Rattle.std.proofs.Common.{take, ℤ, List}
use Rattle.std.specs.List.{flat_map}
use Rattle.sched_types.specs.declared.sched.Task.{Task}
use Rattle.core_law.specs.Scripts.{row_actions}
use Rattle.core_nest.specs.NestLaws.{plain_work}
use Rattle.core_unroll.specs.Advances.{Advances, AreBelow, IsReady}
use Rattle.core_unroll.proofs.unrolling.Unrolling.unroll_rows.Given as goal

-- the rows so far were put down
abbrev pub invariant-loop-row : goal.invariant-loop-row
invariant-loop-row l = (x : List (List ℤ)) (workers : List (List Task)) → IsReady l.nest l.arrays x workers l.initial.self → AreBelow l.arrays.n l.rows
    → Advances (plain_work l.nest l.arrays x workers) l.initial.self (flat_map (row_actions (plain_work l.nest l.arrays x workers)) (take l.row-index l.rows)) (take l.row-index l.rows) l.self
