-- What a board knows of its work, and what its end leaves.
use Rattle.std.specs.Prelude.{◌≡◌, ℕ, ◌<◌, ◌^◌, ℤ, true, false, List, length, FitsSigned}
use Rattle.std.specs.Int.{w64}
use Rattle.wave_base.specs.declared.types.ArrayId.{ArrayId}
use Rattle.wave_base.specs.declared.types.Cell.{Cell}
use Rattle.sched_types.specs.Order.{tasks_of}
use Rattle.loop_core.specs.Lists.{list_of}
use Rattle.loop_core.specs.Shape.{is_target}
use Rattle.loop_core.specs.Sequence.{sequential}
use Rattle.core_cells.specs.Cells.{at_cell}
use Rattle.core_machine.specs.declared.work.Work.{Work}
use Rattle.core_machine.specs.FitWork.{IsFitWork}

-- it is fit, each of its words fits 64 bits, and so does the number of each worker's tasks
pub record IsSound (w : Work) : Type 0 where
  pub fit : IsFitWork w
  pub words : (cell : Cell) → cell.array.0 < 64 → FitsSigned w64 (at_cell w.values cell)
  pub tasks : (k : ℕ) → length (tasks_of w.sched.workers k) < 2 ^ 64

-- the arrays that the nest writes are those of the loop run in order, and all else is as before
pub record IsClosed (w : Work) (before after : List (List ℤ)) : Type 0 where
  pub written : (array : ArrayId) → is_target w.nest array ≡ true → list_of after array ≡ list_of (sequential w.nest w.arrays w.values) array
  pub others : (array : ArrayId) → is_target w.nest array ≡ false → list_of after array ≡ list_of before array
  pub lists : length after ≡ length before
