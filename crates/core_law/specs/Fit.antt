-- A work whose writes are inside their lists, and whose schedule fits the dependences of its rows.
use Rattle.std.specs.Prelude.{ℕ, ◌<◌, length}
use Rattle.wave_base.specs.declared.types.Cell.{Cell}
use Rattle.sched_types.specs.Fits.{Fits}
use Rattle.core_cells.specs.Cells.{IsInside}
use Rattle.core_law.specs.Works.{Work}
use Rattle.core_law.specs.Numbers.{total}
use Rattle.core_law.specs.Dependence.{Writes, RowDepends}

pub record IsFit (w : Work) : Type 0 where
  pub inside : (g : ℕ) (cell : Cell) → g < total w → Writes w g cell → IsInside w.start cell
  pub fits : Fits (length w.rows) (λ i j. RowDepends w i.0 j.0) w.workers
