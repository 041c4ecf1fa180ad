-- What the laws need of the scripts: where their actions stand.
use Rattle.std.proofs.Common.{◌≡◌, ℕ, ◌+◌, ◌<◌, ◌≤◌, Bool, List, [], ◌∷◌, ◌++◌, length, map, take, Some}
use Rattle.std.specs.Prelude.{ℤ, Contains, slice_get}
use Rattle.wave_base.specs.declared.types.RowId.{RowId}
use Rattle.wave_base.specs.declared.types.Cell.{Cell}
use Rattle.sched_types.specs.declared.lists.Wait.{Wait}
use Rattle.sched_types.specs.declared.sched.Task.{Task}
use Rattle.sched_types.specs.Order.{Spot, IsAt, tasks_of}
use Rattle.sched_types.specs.Fits.{Stands}
use Rattle.core_law.specs.Works.{Work}
use Rattle.core_law.specs.Numbers.{instance_at, total, row}
use Rattle.core_law.specs.Sequential.{kept, word_before, read_before, read_with}
use Rattle.core_law.specs.Dependence.{Reads, Writes}
use Rattle.core_law.specs.Scripts.{Action, look, read, write, finish, task_actions, script, next}
use Rattle.core_law.specs.Standing.{finished, task_start}

-- the registers after these actions, where each read finds what the sequential run reads
abbrev pub recalled : Work → List Action → List ℤ → List ℤ
recalled w [] rs = rs
recalled w (look f n ∷ more) rs = recalled w more rs
recalled w (read b g x ∷ more) rs = recalled w more (kept b rs ++ word_before w g x ∷ [])
recalled w (write b g x ∷ more) rs = recalled w more (kept b rs)
recalled w (finish ∷ more) rs = recalled w more []

-- what they are before the action at a place of the script of k
abbrev pub recalled_at : Work → ℕ → ℕ → List ℤ
recalled_at w k p = recalled w (take p (script w k)) []

-- the action is one of the instance g
abbrev pub IsOf : ℕ → Action → Type 0
IsOf g (look f n) = ⊥
IsOf g (read b h x) = h ≡ g
IsOf g (write b h x) = h ≡ g
IsOf g finish = ⊥

abbrev pub For : Work → ℕ → ℕ → ℕ → Type 0
For w k p g = (a : Action) × (next w k p ≡ Some a) × IsOf g a

abbrev pub row_of : Work → ℕ → RowId
row_of w g = record { 0 = row w g }

abbrev pub task_at : ℕ → ℕ → Spot
task_at k b = record { worker = k; at = b }

-- each look of the task b of the worker k stands before the place
abbrev pub PastLooks : Work → ℕ → ℕ → ℕ → Type 0
PastLooks w k b p = (task : Task) × IsAt w.workers (task_at k b) task × ((wait : Wait) → Contains task.waits wait → (q : ℕ) × (q < p) × (next w k q ≡ Some (look wait.worker wait.count)))

pub record Laid (w : Work) : Type 0 where
  -- the actions of instances
  pub known : (k p g : ℕ) → For w k p g → g < total w
  pub reads : (k p g : ℕ) (b : Bool) (x : Cell) → next w k p ≡ Some (read b g x) → Reads w g x
  pub writes : (k p g : ℕ) (b : Bool) (x : Cell) → next w k p ≡ Some (write b g x) → Writes w g x
  pub home : (k p g : ℕ) → For w k p g → (s : ℕ) × Stands w.workers (row_of w g) (task_at k (finished w k p)) s
  pub placed : (g : ℕ) (x : Cell) → g < total w → Writes w g x → (k : ℕ) × (p : ℕ) × (b : Bool) × (next w k p ≡ Some (write b g x))
  pub below : (k p g h : ℕ) (x : Cell) → For w k p g → h < g → row w h ≡ row w g → Writes w h x → (q : ℕ) × (q < p) × (b : Bool) × (next w k q ≡ Some (write b h x))
  pub above : (k p g j q h : ℕ) (b : Bool) (x : Cell) → For w k p g → next w j q ≡ Some (write b h x) → g ≤ h → row w h ≡ row w g → (j ≡ k) × (p ≤ q)
  pub rising : (h g : ℕ) → h ≤ g → row w h ≤ row w g
  -- the registers before them
  pub at_read : (k p g : ℕ) (b : Bool) (x : Cell) → next w k p ≡ Some (read b g x)
      → (e : ℕ) × (slice_get (instance_at w g).reads e ≡ Some x) × (kept b (recalled_at w k p) ≡ read_before w g ++ map (word_before w g) (take e (instance_at w g).reads))
  pub at_write : (k p g : ℕ) (b : Bool) (x : Cell) → next w k p ≡ Some (write b g x) → kept b (recalled_at w k p) ≡ read_with w g
  pub at_look : (k p f n : ℕ) → next w k p ≡ Some (look f n) → recalled_at w k p ≡ []
  pub at_end : (k p : ℕ) → length (script w k) ≤ p → recalled_at w k p ≡ []
  -- the looks of tasks
  pub looked : (k p g : ℕ) → For w k p g → PastLooks w k (finished w k p) p
  pub had_looked : (k b p : ℕ) → b < finished w k p → PastLooks w k b p
  pub past_start : (t : Spot) (task : Task) (p : ℕ) → IsAt w.workers t task → task_start w t + length task.waits ≤ p → (t.at ≤ finished w t.worker p) × PastLooks w t.worker t.at p
  pub over : (k b p : ℕ) → b < finished w k p → (task : Task) × IsAt w.workers (task_at k b) task × (task_start w (task_at k b) + length (task_actions w task) ≤ p)
  pub closed : (t : Spot) (task : Task) (p : ℕ) → IsAt w.workers t task → task_start w t + length (task_actions w task) ≤ p → t.at < finished w t.worker p
  pub few : (k p : ℕ) → finished w k p ≤ length (tasks_of w.workers k)
  pub waits : (k p f n : ℕ) → next w k p ≡ Some (look f n) → (task : Task) × IsAt w.workers (task_at k (finished w k p)) task × Contains task.waits (record { worker = f; count = n })
  pub goes_on : (k p : ℕ) → finished w k p < length (tasks_of w.workers k) → p < length (script w k)
