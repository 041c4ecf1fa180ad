-- The machine over the actions of the code.
use Rattle.std.specs.Prelude.{ℕ, List, suc, ◌+◌, ◌<◌, ◌≤◌, nat_le, if◌then◌else◌, Option, Some, None, [], ◌∷◌, ◌++◌, length, slice_index, slice_set}
use Rattle.core_cells.specs.Cells.{at_cell, put}
use Rattle.core_law.specs.Sequential.{kept}
use Rattle.core_law.specs.Machine.{Stand, State, stand, moved}
use Rattle.core_run.specs.declared.action.Action.{Action}
use Rattle.core_run.specs.declared.action.Action.TheVariants.{Look, Read, Write, Finish}
use Rattle.core_book.specs.declared.book.Book.{Book}
use Rattle.core_run.specs.declared.machine.Event.{Event}
use Rattle.core_run.specs.declared.machine.Event.TheVariants.{Looked, Read as Found, Wrote, FinishedTask, Ended}
use Rattle.core_book.specs.declared.book.How.{How}
use Rattle.core_book.specs.Hows.{worked}
use Rattle.core_run.specs.Seats.{IsThere}

-- the worker k, which stands at t, does an action
abbrev pub did : Book → List How → ℕ → State → Stand → Option Action → State
did book hows k c t None = c
did book hows k c t (Some (Look f n)) = if nat_le n (slice_index c.counts f) then moved c k (stand (suc t.place) t.registers) else c
did book hows k c t (Some (Read begins cell)) = moved c k (stand (suc t.place) (kept begins t.registers ++ at_cell c.cells cell ∷ []))
did book hows k c t (Some (Write begins cell at)) = record {
  counts = c.counts;
  cells = put c.cells cell (worked book hows (kept begins t.registers) at);
  stands = slice_set c.stands k (stand (suc t.place) (kept begins t.registers));
}
did book hows k c t (Some Finish) = record {
  counts = slice_set c.counts k (slice_index c.counts k + 1);
  cells = c.cells;
  stands = slice_set c.stands k (stand (suc t.place) []);
}

-- the action can be made within the room that there is
abbrev pub HasRoom : Book → List How → ℕ → ℕ → State → Stand → Option Action → Type 0
HasRoom book hows room k c t None = Unit {0}
HasRoom book hows room k c t (Some (Look f n)) = f < length c.counts
HasRoom book hows room k c t (Some (Read begins cell)) = length (kept begins t.registers) < room
HasRoom book hows room k c t (Some (Write begins cell at)) = IsThere book hows (kept begins t.registers) at
HasRoom book hows room k c t (Some Finish) = (k < length c.counts) × (slice_index c.counts k ≤ t.place)

-- the answer to the event
abbrev pub told : Book → List How → ℕ → State → Stand → Option Action → Event
told book hows k c t None = Ended
told book hows k c t (Some (Look f n)) = Looked (slice_index c.counts f) n (nat_le n (slice_index c.counts f))
told book hows k c t (Some (Read begins cell)) = Found cell (at_cell c.cells cell)
told book hows k c t (Some (Write begins cell at)) = Wrote cell (worked book hows (kept begins t.registers) at)
told book hows k c t (Some Finish) = FinishedTask (slice_index c.counts k + 1)
