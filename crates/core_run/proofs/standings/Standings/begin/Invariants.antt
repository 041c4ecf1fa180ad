use Rattle.std.proofs.Common.{◌≡◌, List, [], map, replicate}
use Rattle.std.specs.List.{All}
use Rattle.core_law.specs.Machine.{stand}
use Rattle.core_book.specs.declared.book.Book.{Book}
use Rattle.core_book.specs.declared.book.How.{How}
use Rattle.core_book.specs.Caught.{IsCaught}
use Rattle.core_run.specs.declared.standings.Standing.{Standing}
use Rattle.core_run.specs.Seats.{stand_at, AreRoomy}
use Rattle.core_run.proofs.standings.Standings.begin.Given as goal

-- so many workers stand at their starts, and no instance of their rows is applied
abbrev pub invariant-loop : goal.invariant-loop
invariant-loop l = (map stand_at l.items.items ≡ replicate l.counter (stand 0 []))
    × (AreRoomy l.room l.items.items
    × ((book : Book) (h : List How) → All (λ (s : Standing). IsCaught book h [] s.row) l.items.items))
