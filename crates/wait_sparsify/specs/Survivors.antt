-- Which of the tasks before a task it has to wait for.
use Rattle.std.specs.Prelude.{ℕ, ◌==◌, ◌||◌, ◌+◌, Bool, false, cond, List, [], ◌∷◌, length, slice_index, slice_index_or}
use Rattle.wave_base.specs.declared.types.RowId.{RowId}
use Rattle.row_graph.specs.Buckets.{buckets}
use Rattle.row_graph.specs.Turned.{turned}
use Rattle.wait_sparsify.specs.Written.{written}

-- for each task those that it is crossed with
abbrev pub nexts : List (List RowId) → List (List RowId)
nexts cross = buckets (length cross) (turned 0 cross)

-- the next task is on the same worker
abbrev pub is_followed : List ℕ → RowId → List RowId → Bool
is_followed owners u [] = false
is_followed owners u (v ∷ tasks) = slice_index owners u.0 == slice_index owners v.0

-- one of some tasks has a stamp
abbrev pub is_stamped : List ℕ → ℕ → List RowId → Bool
is_stamped numbers stamp [] = false
is_stamped numbers stamp (v ∷ tasks) = slice_index numbers v.0 == stamp || is_stamped numbers stamp tasks

-- a task is dropped where a later one on its worker is among them, where the worker has waited for it,
-- or where it is crossed with one that is among them
abbrev pub is_dropped : List ℕ → List ℕ → ℕ → List ℕ → ℕ → List (List RowId) → RowId → List RowId → Bool
is_dropped owners earlier worker among task after u tasks =
    is_followed owners u tasks || (slice_index earlier u.0 == worker || is_stamped among task (slice_index_or after u.0 []))

abbrev pub survivors : List ℕ → List ℕ → ℕ → List ℕ → ℕ → List (List RowId) → List RowId → List RowId
survivors owners earlier worker among task after [] = []
survivors owners earlier worker among task after (u ∷ tasks) = cond (is_dropped owners earlier worker among task after u tasks) (survivors owners earlier worker among task after tasks) (u ∷ survivors owners earlier worker among task after tasks)

-- for each task those before it that survive. Tasks count from a first number. The stamps of a task
-- are one more than its number, and those of a worker one more than the worker
abbrev pub kept_lists : List (List RowId) → List ℕ → ℕ → List ℕ → List ℕ → List (List RowId) → List (List RowId)
kept_lists after owners task earlier among [] = []
kept_lists after owners task earlier among (firsts ∷ lists) =
    survivors owners earlier (slice_index owners task + 1) (written (task + 1) firsts among) (task + 1) after firsts ∷ kept_lists after owners (task + 1) (written (slice_index owners task + 1) firsts earlier) (written (task + 1) firsts among) lists
