-- What holds in each reached state, in the words of the nest.
use Rattle.std.specs.Prelude.{◌≡◌, ◌⊎◌, ◌↔◌, ℕ, ℤ, pos, ◌<◌, Bool, List, Some, slice_get}
use Rattle.wave_base.specs.declared.types.RowId.{RowId}
use Rattle.wave_base.specs.declared.types.Cell.{Cell}
use Rattle.sched_types.specs.declared.sched.Task.{Task}
use Rattle.sched_types.specs.Order.{Spot, Before}
use Rattle.sched_types.specs.Fits.{Stands}
use Rattle.loop_core.specs.declared.nest.Nest.{Nest}
use Rattle.loop_core.specs.declared.place.Place.{Place}
use Rattle.loop_core.specs.Lists.{Lists}
use Rattle.loop_core.specs.declared.effect.Effect.TheVariants.{Sets}
use Rattle.loop_core.specs.Instances.{Instance, instances}
use Rattle.loop_core.specs.Values.{reads}
use Rattle.loop_core.specs.Sequence.{formula_value, before, sequential, sequential_read}
use Rattle.loop_core.specs.Touches.{Depends}
use Rattle.core_cells.specs.Cells.{at_cell}
use Rattle.core_law.specs.Works.{Work}
use Rattle.core_law.specs.Numbers.{instance_at, total}
use Rattle.core_law.specs.Sequential.{kept}
use Rattle.core_law.specs.Scripts.{read, write, next}
use Rattle.core_law.specs.Machine.{State, stand_of, place}
use Rattle.core_law.specs.Standing.{Made, IsFinished, HasLooked, HasEnded, CanStep}
use Rattle.core_rows.specs.Replay.{work_of}
use Rattle.core_rows.specs.RowLaws.{number}
use Rattle.core_nest.specs.Nested.{cell_of, nest_work}

-- the work of a nest
abbrev pub plain_work : Nest → Lists → List (List ℤ) → List (List Task) → Work
plain_work nest a x workers = work_of (nest_work nest a x workers)

-- read r of instance k of iteration i finds what it finds in the loop
abbrev pub ReadsAsLoop : Nest → Lists → List (List ℤ) → List (List Task) → State → Type 0
ReadsAsLoop nest a x workers c =
    (j i k r : ℕ) (s : Instance) (p : Place) (begins : Bool) → i < a.n → slice_get (instances a nest (pos i)) k ≡ Some s → slice_get (reads s.value) r ≡ Some p
    → next (plain_work nest a x workers) j (place c j) ≡ Some (read begins (number (nest_work nest a x workers) i k) (cell_of p))
    → at_cell c.cells (cell_of p) ≡ sequential_read nest a x i k r

-- instance k of iteration i sets this cell, and its write stores the value that it has in the loop
pub record WriteIsAsInLoop (nest : Nest) (a : Lists) (x : List (List ℤ)) (workers : List (List Task)) (c : State) (j i k : ℕ) (s : Instance) (begins : Bool) (cell : Cell) : Type 0 where
  pub sets : (p : Place) × (s.effect ≡ Sets p) × (cell_of p ≡ cell)
  pub value : (instance_at (plain_work nest a x workers) (number (nest_work nest a x workers) i k)).value (kept begins (stand_of c j).registers)
      ≡ formula_value (before nest a x i k).lists (before nest a x i k).locals s.value

abbrev pub WritesAsLoop : Nest → Lists → List (List ℤ) → List (List Task) → State → Type 0
WritesAsLoop nest a x workers c =
    (j i k : ℕ) (s : Instance) (begins : Bool) (cell : Cell) → i < a.n → slice_get (instances a nest (pos i)) k ≡ Some s
    → next (plain_work nest a x workers) j (place c j) ≡ Some (write begins (number (nest_work nest a x workers) i k) cell)
    → WriteIsAsInLoop nest a x workers c j i k s begins cell

-- the cell holds what it holds in the loop before the instance of this number, or in the end
abbrev pub HoldsAsBefore : Nest → Lists → List (List ℤ) → List (List Task) → State → Cell → ℕ → Type 0
HoldsAsBefore nest a x workers c cell m =
    ((m ≡ total (plain_work nest a x workers)) × (at_cell c.cells cell ≡ at_cell (sequential nest a x) cell))
    ⊎ ((i : ℕ) × (k : ℕ) × (i < a.n) × (m ≡ number (nest_work nest a x workers) i k) × (at_cell c.cells cell ≡ at_cell (before nest a x i k).lists cell))

-- exactly the writes of the instances before some number are made to the cell
pub record WritesAreABeginning (nest : Nest) (a : Lists) (x : List (List ℤ)) (workers : List (List Task)) (c : State) (cell : Cell) : Type 0 where
  pub number_of : ℕ
  pub holds : HoldsAsBefore nest a x workers c cell number_of
  pub made : (i k : ℕ) (s : Instance) (p : Place) → i < a.n → slice_get (instances a nest (pos i)) k ≡ Some s → s.effect ≡ Sets p → cell_of p ≡ cell
      → (number (nest_work nest a x workers) i k < number_of ↔ Made (plain_work nest a x workers) c (number (nest_work nest a x workers) i k))

-- an ended state has the arrays of the loop
abbrev pub EndsAsLoop : Nest → Lists → List (List ℤ) → List (List Task) → State → Type 0
EndsAsLoop nest a x workers c = HasEnded (plain_work nest a x workers) c → c.cells ≡ sequential nest a x

-- The first part of the headline. Each dependence is ordered by the schedule, and once the worker of its second row is past
-- the looks of that row's task, the task of its first row is finished.
abbrev pub DependencesAreOrdered : Nest → Lists → List (List ℤ) → List (List Task) → State → Type 0
DependencesAreOrdered nest a x workers c =
    (i j : RowId) (first second : Spot) (at other_at : ℕ) → Depends a nest x i.0 j.0 → Stands workers i first at → Stands workers j second other_at
    → Before workers first second × (HasLooked (plain_work nest a x workers) c second → IsFinished c first)

-- The second part. Until all workers are at their ends, some worker can step.
abbrev pub SomeWorkerSteps : Nest → Lists → List (List ℤ) → List (List Task) → State → Type 0
SomeWorkerSteps nest a x workers c = HasEnded (plain_work nest a x workers) c ⊎ ((k : ℕ) × CanStep (plain_work nest a x workers) c k)
