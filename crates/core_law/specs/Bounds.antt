-- What a reached state keeps inside its bounds.
use Rattle.std.specs.Prelude.{◌≡◌, ℕ, ◌<◌, ◌≤◌, Bool, [], length, Some, slice_index, slice_index_or}
use Rattle.wave_base.specs.declared.types.Cell.{Cell}
use Rattle.sched_types.specs.Order.{tasks_of}
use Rattle.core_law.specs.Works.{Work}
use Rattle.core_law.specs.Numbers.{total}
use Rattle.core_law.specs.Dependence.{Reads, Writes}
use Rattle.core_law.specs.Scripts.{Action, look, read, write, finish, script, next}
use Rattle.core_law.specs.Machine.{State, place}

-- each worker has a count and a place, and each list has its length
pub record HasShape (w : Work) (c : State) : Type 0 where
  pub counts : length c.counts ≡ length w.workers
  pub stands : length c.stands ≡ length w.workers
  pub cells : length c.cells ≡ length w.start
  pub lists : (array : ℕ) → length (slice_index_or c.cells array []) ≡ length (slice_index_or w.start array [])
  pub places : (k : ℕ) → place c k ≤ length (script w k)
  pub counts_below_places : (k : ℕ) → slice_index c.counts k ≤ place c k
  pub counts_below_tasks : (k : ℕ) → slice_index c.counts k ≤ length (tasks_of w.workers k)
  pub at_finish : (k : ℕ) → next w k (place c k) ≡ Some finish → slice_index c.counts k < length (tasks_of w.workers k)

-- actions name workers, tasks, instances and cells that are there
pub record HasActions (w : Work) (k p : ℕ) : Type 0 where
  pub worker : (a : Action) → next w k p ≡ Some a → k < length w.workers
  pub at_look : (f n : ℕ) → next w k p ≡ Some (look f n) → (f < length w.workers) × (1 ≤ n) × (n ≤ length (tasks_of w.workers f))
  pub at_read : (g : ℕ) (begins : Bool) (cell : Cell) → next w k p ≡ Some (read begins g cell) → (g < total w) × Reads w g cell
  pub at_write : (g : ℕ) (begins : Bool) (cell : Cell) → next w k p ≡ Some (write begins g cell) → (g < total w) × Writes w g cell
