-- The pure machine: each event is one load or one store of one word by one worker.
use Rattle.std.specs.Prelude.{◌≡◌, ℕ, suc, ℤ, ◌+◌, cond, List, [], ◌∷◌, ◌++◌, length, replicate, slice_index, slice_index_or, slice_set, Option, Some, None}
use Rattle.std.proofs.Common.{leb}
use Rattle.core_cells.specs.Cells.{at_cell, put}
use Rattle.core_law.specs.Works.{Work}
use Rattle.core_law.specs.Numbers.{instance_at}
use Rattle.core_law.specs.Sequential.{kept}
use Rattle.core_law.specs.Scripts.{Action, look, read, write, finish, next}

-- where a worker stands in its script, and what it has read in its current row
pub record Stand : Type 0 where
  pub place : ℕ
  pub registers : List ℤ

pub record State : Type 0 where
  pub counts : List ℕ
  pub cells : List (List ℤ)
  pub stands : List Stand

abbrev pub stand : ℕ → List ℤ → Stand
stand place registers = record { place = place; registers = registers }

abbrev pub stand_of : State → ℕ → Stand
stand_of c k = slice_index_or c.stands k (stand 0 [])

abbrev pub place : State → ℕ → ℕ
place c k = (stand_of c k).place

abbrev pub moved : State → ℕ → Stand → State
moved c k t = record c { stands = slice_set c.stands k t }

-- the worker k, which stands at t, does an action
abbrev pub acted : Work → State → ℕ → Stand → Option Action → State
acted w c k t None = c
acted w c k t (Some (look f n)) = cond (leb n (slice_index c.counts f)) (moved c k (stand (suc t.place) t.registers)) c
acted w c k t (Some (read begins g cell)) = moved c k (stand (suc t.place) (kept begins t.registers ++ at_cell c.cells cell ∷ []))
acted w c k t (Some (write begins g cell)) = record {
  counts = c.counts;
  cells = put c.cells cell ((instance_at w g).value (kept begins t.registers));
  stands = slice_set c.stands k (stand (suc t.place) (kept begins t.registers));
}
acted w c k t (Some finish) = record {
  counts = slice_set c.counts k (slice_index c.counts k + 1);
  cells = c.cells;
  stands = slice_set c.stands k (stand (suc t.place) []);
}

-- the worker k does its next action
abbrev pub event : Work → ℕ → State → State
event w k c = acted w c k (stand_of c k) (next w k (place c k))

abbrev pub opening : Work → State
opening w = record { counts = replicate (length w.workers) 0; cells = w.start; stands = replicate (length w.workers) (stand 0 []) }

-- the state after these events, the last one first
abbrev pub run : Work → List ℕ → State
run w [] = opening w
run w (k ∷ es) = event w k (run w es)

abbrev pub Reached : Work → State → Type 0
Reached w c = (es : List ℕ) × (run w es ≡ c)
