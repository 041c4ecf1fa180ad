-- A row that is as far as it says.
use Rattle.std.specs.Prelude.{◌≡◌, ℤ, ◌≤◌, List, length}
use Rattle.core_rows.specs.Progress.{Progress}
use Rattle.core_book.specs.declared.book.Book.{Book}
use Rattle.core_book.specs.declared.book.How.{How}
use Rattle.core_book.specs.declared.row.Row.{Row}
use Rattle.core_book.specs.Hows.{progress_at}

abbrev pub progress_of : Row → Progress
progress_of row = record { locals = row.locals; used = row.used }

-- its locals are those after its first so many instances, over these registers, and no later register was used
pub record IsCaught (book : Book) (hows : List How) (registers : List ℤ) (row : Row) : Type 0 where
  pub is : progress_of row ≡ progress_at book hows registers row.first row.count
  pub within : row.used ≤ length registers
