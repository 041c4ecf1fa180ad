-- Queues of instances, one for each pair of places.
use Rattle.std.specs.Prelude.{ℕ, List, [], ◌∷◌, ◌++◌, slice_index_or, slice_set}
use Rattle.bound_table.specs.declared.waiting.Waiting.{Waiting}

abbrev pub queue : List (List (List Waiting)) → ℕ → ℕ → List Waiting
queue rows x y = slice_index_or (slice_index_or rows x []) y []

abbrev pub set_queue : List (List (List Waiting)) → ℕ → ℕ → List Waiting → List (List (List Waiting))
set_queue rows x y q = slice_set rows x (slice_set (slice_index_or rows x []) y q)

abbrev pub put_in : List (List (List Waiting)) → ℕ → ℕ → Waiting → List (List (List Waiting))
put_in rows x y w = set_queue rows x y (queue rows x y ++ w ∷ [])

abbrev pub without : List (List (List Waiting)) → ℕ → ℕ → List (List (List Waiting))
without rows x y = set_queue rows x y []
