-- The order of the schedule's tasks holds in each state.
use Rattle.std.specs.Prelude.{◌≡◌, ◌↔◌, ℕ, ◌≤◌, slice_index}
use Rattle.wave_base.specs.declared.types.RowId.{RowId}
use Rattle.sched_types.specs.Order.{Spot, Before}
use Rattle.sched_types.specs.Fits.{Stands}
use Rattle.core_law.specs.Works.{Work}
use Rattle.core_law.specs.Dependence.{RowDepends}
use Rattle.core_law.specs.Machine.{State, event, place}
use Rattle.core_law.specs.Standing.{finished, IsFinished, IsPassed, HasLooked}

-- a done count is the number of that worker's finished tasks
abbrev pub IsCounted : Work → State → Type 0
IsCounted w c = (k : ℕ) → slice_index c.counts k ≡ finished w k (place c k)

-- and those are the tasks that it is past
abbrev pub FinishedArePassed : Work → State → Type 0
FinishedArePassed w c = (t : Spot) → IsFinished c t ↔ IsPassed w c t

-- no event lowers a done count
abbrev pub NeverFall : Work → State → Type 0
NeverFall w c = (k f : ℕ) → slice_index c.counts f ≤ slice_index (event w k c).counts f

-- past the looks of a task, and so past the tasks before it, all that is before it in the order is finished
abbrev pub IsOrdered : Work → State → Type 0
IsOrdered w c = (u t : Spot) → HasLooked w c t → Before w.workers u t → IsFinished c u

-- of two rows that depend on each other the first's task is finished where the second's is past its looks
abbrev pub DependencesAreKept : Work → State → Type 0
DependencesAreKept w c = (i j : RowId) (u t : Spot) (at spot : ℕ) → RowDepends w i.0 j.0 → Stands w.workers i u at → Stands w.workers j t spot → HasLooked w c t → IsFinished c u
