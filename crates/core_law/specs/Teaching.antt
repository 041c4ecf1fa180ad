-- What a passed look teaches.
use Rattle.std.specs.Prelude.{◌≡◌, ℕ, suc, ◌<◌, ◌≤◌, Bool, Some, slice_index}
use Rattle.wave_base.specs.declared.types.Cell.{Cell}
use Rattle.sched_types.specs.Fits.{Stands}
use Rattle.core_cells.specs.Cells.{at_cell}
use Rattle.core_law.specs.Works.{Work}
use Rattle.core_law.specs.Numbers.{row}
use Rattle.core_law.specs.Sequential.{word_before}
use Rattle.core_law.specs.Dependence.{Writes}
use Rattle.core_law.specs.Scripts.{look, read, next}
use Rattle.core_law.specs.Machine.{State, place}

-- the instance h is the last one before g that writes the cell
pub record IsLast (w : Work) (h g : ℕ) (cell : Cell) : Type 0 where
  pub before : h < g
  pub writes : Writes w h cell
  pub none_between : (k : ℕ) → h < k → k < g → Writes w k cell → ⊥

-- past a look at the first n tasks of f: they are finished, and a read that is to come, whose last write before it
-- in the sequential run is in one of them, has that write's value in its cell
abbrev pub Teaches : Work → State → Type 0
Teaches w c = (k q f n : ℕ) → next w k q ≡ Some (look f n) → q < place c k
    → (n ≤ slice_index c.counts f)
    × ((p g h b at : ℕ) (begins : Bool) (cell : Cell) → place c k ≤ p → next w k p ≡ Some (read begins g cell) → IsLast w h g cell
    → Stands w.workers (record { 0 = row w h }) (record { worker = f; at = b }) at → b < n → at_cell c.cells cell ≡ word_before w (suc h) cell)
