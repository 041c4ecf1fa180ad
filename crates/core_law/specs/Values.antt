-- Each action has the sequential run's value.
use Rattle.std.specs.Prelude.{◌≡◌, ℕ, suc, Bool, Some}
use Rattle.wave_base.specs.declared.types.Cell.{Cell}
use Rattle.core_cells.specs.Cells.{at_cell}
use Rattle.core_law.specs.Works.{Work}
use Rattle.core_law.specs.Numbers.{instance_at, total}
use Rattle.core_law.specs.Sequential.{kept, after, word_before}
use Rattle.core_law.specs.Scripts.{read, write, next}
use Rattle.core_law.specs.Machine.{State, stand_of, place}
use Rattle.core_law.specs.Standing.{HasEnded}

-- a read finds what the sequential run reads there
abbrev pub ReadsRight : Work → State → Type 0
ReadsRight w c = (k g : ℕ) (begins : Bool) (cell : Cell) → next w k (place c k) ≡ Some (read begins g cell) → at_cell c.cells cell ≡ word_before w g cell

-- a write stores what the sequential run writes
abbrev pub WritesRight : Work → State → Type 0
WritesRight w c = (k g : ℕ) (begins : Bool) (cell : Cell) → next w k (place c k) ≡ Some (write begins g cell)
    → (instance_at w g).value (kept begins (stand_of c k).registers) ≡ word_before w (suc g) cell

-- an ended state has the words of the whole sequential run
abbrev pub EndsRight : Work → State → Type 0
EndsRight w c = HasEnded w c → c.cells ≡ (after w (total w)).cells
