-- A work: what the rows do, and who does them.
use Rattle.std.specs.Prelude.{ℤ, List, Option}
use Rattle.wave_base.specs.declared.types.Cell.{Cell}
use Rattle.sched_types.specs.declared.sched.Task.{Task}

-- One statement instance. It reads these cells, from left to right. It writes the target, where it has one: an instance
-- that keeps a value for its own row has none. Its value is one of all that was read in its row so far, its own reads included.
pub record Instance : Type 0 where
  pub reads : List Cell
  pub target : Option Cell
  pub value : List ℤ → ℤ

-- the instances of each row, the tasks of each worker, and the words at the start
pub record Work : Type 0 where
  pub rows : List (List Instance)
  pub workers : List (List Task)
  pub start : List (List ℤ)
