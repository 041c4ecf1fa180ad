-- Unit forward substitution with two rows on two workers: the second row reads what the first sets.
use Rattle.std.specs.Prelude.{ℤ, pos, List, [], ◌∷◌}
use Rattle.sched_types.specs.declared.sched.Sched.{Sched}
use Rattle.loop_core.specs.Lists.{Lists}
use Rattle.loop_core.specs.UnitForward.{unit_forward}
use Rattle.core_law.specs.TwoRows.{two_rows}
use Rattle.core_machine.specs.declared.work.Work.{Work}

-- the arrays ptr, col and diag, and no index arrays after them
abbrev pub two_index : Lists
two_index = record { n = 2; nnz = 3; lists = (pos 0 ∷ pos 1 ∷ pos 3 ∷ []) ∷ (pos 0 ∷ pos 0 ∷ pos 1 ∷ []) ∷ (pos 0 ∷ pos 2 ∷ []) ∷ [] }

-- the arrays val, b and x after those
abbrev pub two_data : List (List ℤ)
two_data = [] ∷ [] ∷ [] ∷ (pos 1 ∷ pos 2 ∷ pos 1 ∷ []) ∷ (pos 7 ∷ pos 20 ∷ []) ∷ (pos 0 ∷ pos 0 ∷ []) ∷ []

-- each worker has one row, and worker 1 waits for worker 0
abbrev pub two_sched : Sched
two_sched = record { workers = two_rows.workers }

abbrev pub two_work : Work
two_work = record { nest = unit_forward; arrays = two_index; values = two_data; sched = two_sched }
