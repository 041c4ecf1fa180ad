-- The answer to an event.
use Rattle.std.specs.Prelude.{◌≡◌, ℕ, ◌+◌, ◌<◌, pos, nat_le, Bool, Option, Some, None, slice_get, slice_index}
use Rattle.wave_base.specs.declared.types.Cell.{Cell}
use Rattle.loop_core.specs.declared.place.Place.{Place}
use Rattle.loop_core.specs.Instances.{Instance, instances}
use Rattle.loop_core.specs.Values.{reads}
use Rattle.loop_core.specs.Sequence.{formula_value, before, sequential_read}
use Rattle.core_cells.specs.Cells.{at_cell}
use Rattle.core_law.specs.Works as law
use Rattle.core_law.specs.Numbers.{instance_at}
use Rattle.core_law.specs.Sequential.{kept}
use Rattle.core_law.specs.Scripts.{Action, look, read, write, finish, next}
use Rattle.core_law.specs.Machine.{State, stand_of, place}
use Rattle.core_rows.specs.RowLaws.{number}
use Rattle.core_nest.specs.Nested.{cell_of, nest_work}
use Rattle.core_run.specs.declared.machine.Event.{Event}
use Rattle.core_run.specs.declared.machine.Event.TheVariants.{Looked, Read as Found, Wrote, FinishedTask, Ended}
use Rattle.core_machine.specs.declared.work.Work.{Work}
use Rattle.core_machine.specs.FitWork.{plain}

-- what the action names
abbrev pub answered : law.Work → State → ℕ → Option Action → Event
answered w c k None = Ended
answered w c k (Some (look f n)) = Looked (slice_index c.counts f) n (nat_le n (slice_index c.counts f))
answered w c k (Some (read begins g cell)) = Found cell (at_cell c.cells cell)
answered w c k (Some (write begins g cell)) = Wrote cell ((instance_at w g).value (kept begins (stand_of c k).registers))
answered w c k (Some finish) = FinishedTask (slice_index c.counts k + 1)

-- the answer to the next event of a worker
abbrev pub answer_of : Work → State → ℕ → Event
answer_of w c k = answered (plain w) c k (next (plain w) k (place c k))

-- a read finds what it finds in the loop, and a write stores what it stores there
pub record IsAsInLoop (w : Work) (c : State) (worker : ℕ) (event : Event) : Type 0 where
  pub at_read : (i k r : ℕ) (s : Instance) (p : Place) (begins : Bool) → i < w.arrays.n → slice_get (instances w.arrays w.nest (pos i)) k ≡ Some s → slice_get (reads s.value) r ≡ Some p
      → next (plain w) worker (place c worker) ≡ Some (read begins (number (nest_work w.nest w.arrays w.values w.sched.workers) i k) (cell_of p))
      → event ≡ Found (cell_of p) (sequential_read w.nest w.arrays w.values i k r)
  pub at_write : (i k : ℕ) (s : Instance) (begins : Bool) (cell : Cell) → i < w.arrays.n → slice_get (instances w.arrays w.nest (pos i)) k ≡ Some s
      → next (plain w) worker (place c worker) ≡ Some (write begins (number (nest_work w.nest w.arrays w.values w.sched.workers) i k) cell)
      → event ≡ Wrote cell (formula_value (before w.nest w.arrays w.values i k).lists (before w.nest w.arrays w.values i k).locals s.value)
