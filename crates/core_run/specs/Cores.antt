-- The machine's state that a core stands for.
use Rattle.std.specs.Prelude.{ℕ, Option, List, [], slice_get, slice_index_or}
use Rattle.core_law.specs.Machine as law
use Rattle.core_law.specs.Machine.{Stand, stand}
use Rattle.core_run.specs.declared.action.Action.{Action}
use Rattle.core_book.specs.declared.book.How.{How}
use Rattle.core_run.specs.declared.machine.Core.{Core}

abbrev pub core_of : Core → law.State
core_of c = record { counts = c.counts.items; cells = c.values; stands = c.stands.stands }

-- the instances of a worker
abbrev pub hows_of : Core → ℕ → List How
hows_of c k = slice_index_or c.hows.items k []

-- where a worker stands
abbrev pub stand_in : Core → ℕ → Stand
stand_in c k = slice_index_or c.stands.stands k (stand 0 [])

-- the next action of a worker
abbrev pub next_of : Core → ℕ → Option Action
next_of c k = slice_get (slice_index_or c.scripts.items k []) (stand_in c k).place
