-- The writes made to a cell are a beginning of the sequential run's writes to it, and the cell holds the value after them.
use Rattle.std.specs.Prelude.{◌≡◌, ◌↔◌, ℕ, ◌<◌, ◌≤◌}
use Rattle.wave_base.specs.declared.types.Cell.{Cell}
use Rattle.core_cells.specs.Cells.{at_cell}
use Rattle.core_law.specs.Works.{Work}
use Rattle.core_law.specs.Numbers.{total}
use Rattle.core_law.specs.Sequential.{word_before}
use Rattle.core_law.specs.Dependence.{Writes}
use Rattle.core_law.specs.Machine.{State}
use Rattle.core_law.specs.Standing.{Made}

-- exactly the writes of the first so many instances are made
abbrev pub IsPrefix : Work → State → Cell → Type 0
IsPrefix w c cell = (m : ℕ) × (m ≤ total w) × (at_cell c.cells cell ≡ word_before w m cell) × ((g : ℕ) → g < total w → Writes w g cell → (g < m ↔ Made w c g))
