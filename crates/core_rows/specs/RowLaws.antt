-- What holds in each reached state, by row and instance.
use Rattle.std.specs.Prelude.{◌≡◌, ℕ, ◌+◌, Bool, Some, take, length, slice_get}
use Rattle.wave_base.specs.declared.types.Cell.{Cell}
use Rattle.core_cells.specs.Cells.{at_cell}
use Rattle.core_law.specs.Numbers.{instance_at, first}
use Rattle.core_law.specs.Sequential.{kept, read_before, read_with}
use Rattle.core_law.specs.Scripts.{read, write, next}
use Rattle.core_law.specs.Machine.{State, stand_of, place}
use Rattle.core_law.specs.Standing.{HasEnded}
use Rattle.core_rows.specs.Deeds.{Deed, RowWork}
use Rattle.core_rows.specs.Locals.{value_in, after_rows, row_of, before}
use Rattle.core_rows.specs.Replay.{work_of}
use Rattle.core_rows.specs.Progress.{reads_in}

-- the number of instance j of row i
abbrev pub number : RowWork → ℕ → ℕ → ℕ
number r i j = first (work_of r) i + j

-- a read for instance j of row i finds what that instance finds in the rows run in order
abbrev pub ReadsInRows : RowWork → State → Type 0
ReadsInRows r c = (k i j : ℕ) (d : Deed) (begins : Bool) (cell : Cell) → slice_get (row_of r i) j ≡ Some d
    → next (work_of r) k (place c k) ≡ Some (read begins (number r i j) cell) → at_cell c.cells cell ≡ at_cell (before r i j).cells cell

-- a write for it stores the value that it has there
abbrev pub WritesInRows : RowWork → State → Type 0
WritesInRows r c = (k i j : ℕ) (d : Deed) (begins : Bool) (cell : Cell) → slice_get (row_of r i) j ≡ Some d
    → next (work_of r) k (place c k) ≡ Some (write begins (number r i j) cell)
    → (instance_at (work_of r) (number r i j)).value (kept begins (stand_of c k).registers) ≡ value_in d (before r i j)

-- an ended state has the words of the rows run in order
abbrev pub EndsInRows : RowWork → State → Type 0
EndsInRows r c = HasEnded (work_of r) c → c.cells ≡ after_rows r.locals r.rows r.start

-- how many registers there are before instance j of row i reads its own, and with these
pub record HasRead (r : RowWork) (i j : ℕ) (d : Deed) : Type 0 where
  pub earlier : length (read_before (work_of r) (number r i j)) ≡ reads_in (take j (row_of r i))
  pub own : length (read_with (work_of r) (number r i j)) ≡ reads_in (take j (row_of r i)) + length d.reads
