-- The values of a row's instances one after another, from the book.
use Rattle.std.specs.Prelude.{◌≡◌, ℕ, zero, suc, ℤ, pos, ◌+◌, ◌-◌, Option, Some, None, List, take, drop, slice_get, slice_index_or, slice_set}
use Rattle.core_rows.specs.Progress.{Progress, begun_row}
use Rattle.core_value.specs.Taken.{taken, flagged}
use Rattle.core_book.specs.declared.book.Book.{Book}
use Rattle.core_book.specs.declared.book.How.{How}
use Rattle.core_book.specs.declared.book.Statement.{Statement}

abbrev pub value_by : Book → ℕ → Option Statement → List ℤ → List ℤ → ℕ → ℤ
value_by book from None locals registers used = pos 0
value_by book from (Some s) locals registers used =
    (taken (flagged book.written.items) locals s.value (take s.reads (drop used registers)) (drop from book.others.items)).value

-- the statement's expression over locals, over the instance's own among the registers, and over its words of other arrays
abbrev pub how_value : Book → How → List ℤ → List ℤ → ℕ → ℤ
how_value book how locals registers used = value_by book how.from (slice_get book.statements.items how.statement) locals registers used

abbrev pub reads_by : Option Statement → ℕ
reads_by None = 0
reads_by (Some s) = s.reads

abbrev pub how_reads : Book → How → ℕ
how_reads book how = reads_by (slice_get book.statements.items how.statement)

abbrev pub kept_in : Option ℕ → List ℤ → ℤ → List ℤ
kept_in None locals word = locals
kept_in (Some local) locals word = slice_set locals local word

abbrev pub stepped : Book → List ℤ → How → Progress → Progress
stepped book registers how p = record { locals = kept_in how.keeps p.locals (how_value book how p.locals registers p.used); used = p.used + how_reads book how }

abbrev pub nowhere : How
nowhere = record { statement = 0; keeps = None; before = 0; from = 0 }

-- after so many instances of a row, of which this one is the first
abbrev pub progress_at : Book → List How → List ℤ → ℕ → ℕ → Progress
progress_at book hows registers first zero = begun_row 16
progress_at book hows registers first (suc n) = stepped book registers (slice_index_or hows (first + n) nowhere) (progress_at book hows registers first n)

-- the instance of this number, and what its row has come to before it
abbrev pub how_at : List How → ℕ → How
how_at hows at = slice_index_or hows at nowhere

abbrev pub progress_before : Book → List How → List ℤ → ℕ → Progress
progress_before book hows registers at = progress_at book hows registers (at - (how_at hows at).before) (how_at hows at).before

-- the value of the instance over the registers of its row
abbrev pub worked : Book → List How → List ℤ → ℕ → ℤ
worked book hows registers at =
    let p : Progress = progress_before book hows registers at in
    how_value book (how_at hows at) p.locals registers p.used
