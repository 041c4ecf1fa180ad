-- What the answer to an event says of the sequential run.
use Rattle.std.specs.Prelude.{◌≡◌, ℕ, suc, Bool, Some}
use Rattle.wave_base.specs.declared.types.Cell.{Cell}
use Rattle.core_law.specs.Works.{Work}
use Rattle.core_law.specs.Sequential.{word_before}
use Rattle.core_law.specs.Scripts.{read, write, next}
use Rattle.core_law.specs.Machine.{State, place}
use Rattle.core_run.specs.declared.machine.Event.{Event}
use Rattle.core_run.specs.declared.machine.Event.TheVariants.{Read as Found, Wrote}

-- a read found, and a write wrote, what the sequential run does there
pub record IsRight (w : Work) (c : State) (k : ℕ) (event : Event) : Type 0 where
  pub at_read : (g : ℕ) (begins : Bool) (cell : Cell) → next w k (place c k) ≡ Some (read begins g cell) → event ≡ Found cell (word_before w g cell)
  pub at_write : (g : ℕ) (begins : Bool) (cell : Cell) → next w k (place c k) ≡ Some (write begins g cell) → event ≡ Wrote cell (word_before w (suc g) cell)
