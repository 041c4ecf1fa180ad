-- Unit forward substitution with a matrix of one row and one worker.
use Rattle.std.specs.Prelude.{ℤ, pos, List, [], ◌∷◌}
use Rattle.sched_types.specs.declared.sched.Task.{Task}
use Rattle.loop_core.specs.Lists.{Lists}

-- the arrays ptr, col and diag, and no index arrays after them
abbrev pub one_index : Lists
one_index = record { n = 1; nnz = 1; lists = (pos 0 ∷ pos 1 ∷ []) ∷ (pos 0 ∷ []) ∷ (pos 0 ∷ []) ∷ [] }

-- the arrays val, b and x after those
abbrev pub one_data : List (List ℤ)
one_data = [] ∷ [] ∷ [] ∷ (pos 1 ∷ []) ∷ (pos 7 ∷ []) ∷ (pos 0 ∷ []) ∷ []

abbrev pub one_worker : List (List Task)
one_worker = (record { level = 0; rows = record { 0 = 0 } ∷ []; waits = [] } ∷ []) ∷ []
