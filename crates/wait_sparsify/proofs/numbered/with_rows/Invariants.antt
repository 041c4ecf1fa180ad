use Rattle.std.proofs.Common.{◌≡◌, ◌++◌, drop, map}
use Rattle.sched_types.specs.declared.sched.RowTask.{RowTask}
use Rattle.wait_sparsify.proofs.numbered.with_rows.Given as goal

abbrev pub invariant-loop-at : goal.invariant-loop-at
invariant-loop-at l =
    l.rows ++ map (λ (t : RowTask). t.rows) (drop l.at l.tasks) ≡ l.initial.rows ++ map (λ (t : RowTask). t.rows) l.tasks
