-- A core whose scripts are those of a work.
use Rattle.std.specs.Prelude.{◌≡◌, ℕ, ℤ, ◌<◌, ◌≤◌, Bool, List, [], Option, Some, None, length, slice_get, slice_index_or}
use Rattle.wave_base.specs.declared.types.Cell.{Cell}
use Rattle.core_law.specs.Works.{Work}
use Rattle.core_law.specs.Numbers.{instance_at, total}
use Rattle.core_law.specs.Sequential.{read_with}
use Rattle.core_law.specs.Fit.{IsFit}
use Rattle.core_law.specs.Scripts.{Action as LawAction, look, read, write, finish, next}
use Rattle.core_law.specs.Machine.{Reached}
use Rattle.core_run.specs.declared.action.Action.{Action}
use Rattle.core_run.specs.declared.action.Action.TheVariants.{Look, Read, Write, Finish}
use Rattle.core_run.specs.declared.machine.Core.{Core}
use Rattle.core_book.specs.declared.book.Book.{Book}
use Rattle.core_book.specs.declared.book.How.{How}
use Rattle.core_book.specs.Hows.{how_at, progress_before, worked}
use Rattle.core_run.specs.Seats.{AreCaught}
use Rattle.core_run.specs.Cores.{core_of, hows_of}

-- the instance of the book has the value of the instance g, and those before it in its row take no more registers than that row has read
pub record IsWorked (w : Work) (book : Book) (hows : List How) (g at : ℕ) : Type 0 where
  pub inside : at < length hows
  pub before : (how_at hows at).before ≤ at
  pub enough : (registers : List ℤ) → length registers ≡ length (read_with w g) → (progress_before book hows registers at).used ≤ length registers
  pub value : (registers : List ℤ) → (instance_at w g).value registers ≡ worked book hows registers at

-- the code's action does what the script's does; a write has its instance's value
pub data Does (w : Work) (book : Book) (hows : List How) : Option LawAction → Option Action → Type 0 where
  at_end : Does w book hows None None
  at_look : {f n : ℕ} → Does w book hows (Some (look f n)) (Some (Look f n))
  at_read : {b : Bool} {g : ℕ} {x : Cell} → Does w book hows (Some (read b g x)) (Some (Read b x))
  at_write : {b : Bool} {g : ℕ} {x : Cell} {at : ℕ} → IsWorked w book hows g at → Does w book hows (Some (write b g x)) (Some (Write b x at))
  at_finish : Does w book hows (Some finish) (Some Finish)

pub record IsOf (w : Work) (c : Core) : Type 0 where
  pub does : (k p : ℕ) → Does w c.book (hows_of c k) (next w k p) (slice_get (slice_index_or c.scripts.items k []) p)
  -- there is room for all that a row reads
  pub room : (g : ℕ) → g < total w → length (read_with w g) ≤ c.stands.room
  pub scripts : length c.scripts.items ≡ length w.workers
  pub hows : length c.hows.items ≡ length w.workers

-- some fit work's core in one of its reached states, in which the row of each worker is as far as it says
pub record IsGood (c : Core) : Type 0 where
  pub work : Work
  pub fit : IsFit work
  pub of : IsOf work c
  pub reached : Reached work (core_of c)
  pub caught : AreCaught c.book c.hows.items c.stands
