-- What a worker's registers hold.
use Rattle.std.specs.Prelude.{◌≡◌, ℕ, ◌≤◌, Bool, List, [], ◌∷◌, ◌++◌, map, take, length, Some, slice_get}
use Rattle.wave_base.specs.declared.types.Cell.{Cell}
use Rattle.core_law.specs.Works.{Work}
use Rattle.core_law.specs.Numbers.{instance_at}
use Rattle.core_law.specs.Sequential.{kept, word_before, read_before, read_with}
use Rattle.core_law.specs.Scripts.{Action, look, read, write, finish, script, next}
use Rattle.core_law.specs.Machine.{State, stand_of, place}

-- the reads of the row in which these actions end, in order: each with its instance and its cell
abbrev pub reads_after : List Action → List (ℕ × Cell) → List (ℕ × Cell)
reads_after [] rs = rs
reads_after (look f n ∷ more) rs = reads_after more rs
reads_after (read begins g cell ∷ more) rs = reads_after more (kept begins rs ++ (g, cell) ∷ [])
reads_after (write begins g cell ∷ more) rs = reads_after more (kept begins rs)
reads_after (finish ∷ more) rs = reads_after more []

-- the reads that the worker k has made in its row where it stands at a place
abbrev pub reads_made : Work → ℕ → ℕ → List (ℕ × Cell)
reads_made w k p = reads_after (take p (script w k)) []

-- The registers of the worker k are the sequential values of the reads that it has made in its row.
pub record RegistersRight (w : Work) (c : State) (k : ℕ) : Type 0 where
  pub held : (stand_of c k).registers ≡ map (λ (r : ℕ × Cell). word_before w r.0 r.1) (reads_made w k (place c k))
  -- at a read those of the instances before in its row, and of the reads before in its instance
  pub at_read : (g : ℕ) (begins : Bool) (cell : Cell) → next w k (place c k) ≡ Some (read begins g cell)
      → (e : ℕ) × (slice_get (instance_at w g).reads e ≡ Some cell) × (kept begins (stand_of c k).registers ≡ read_before w g ++ map (word_before w g) (take e (instance_at w g).reads))
  -- at a write those of its instance too
  pub at_write : (g : ℕ) (begins : Bool) (cell : Cell) → next w k (place c k) ≡ Some (write begins g cell) → kept begins (stand_of c k).registers ≡ read_with w g
  -- at a look and at the script's end there are none
  pub at_look : (f n : ℕ) → next w k (place c k) ≡ Some (look f n) → (stand_of c k).registers ≡ []
  pub at_end : length (script w k) ≤ place c k → (stand_of c k).registers ≡ []
