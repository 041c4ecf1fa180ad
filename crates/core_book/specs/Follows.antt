-- Instances of the book that do what those of a work's row do.
use Rattle.std.specs.Prelude.{◌≡◌, ℕ, ℤ, ◌+◌, ◌++◌, Option, Some, None, List, length, take, drop, slice_get}
use Rattle.loop_core.specs.declared.nest.Nest.{Nest}
use Rattle.loop_core.specs.declared.effect.Effect.{Effect}
use Rattle.loop_core.specs.declared.effect.Effect.TheVariants.{Sets, Keeps}
use Rattle.loop_core.specs.Lists.{Lists}
use Rattle.loop_core.specs.Binding.{Binding}
use Rattle.loop_core.specs.Shape.{is_target}
use Rattle.loop_core.specs.Instances.{formula, Instance}
use Rattle.loop_core.specs.Registers.{shared_reads}
use Rattle.core_value.specs.Taken.{flagged, other_words}
use Rattle.core_book.specs.declared.book.Statement.{Statement}
use Rattle.core_rows.specs.Deeds.{Deed}
use Rattle.core_rows.specs.Locals.{kept_by}
use Rattle.core_book.specs.declared.book.Book.{Book}
use Rattle.core_book.specs.declared.book.How.{How}
use Rattle.core_book.specs.Hows.{how_at, how_reads, how_value, kept_in}

-- it takes as many registers, has the same value over them, and keeps it in the same local
pub record Does (book : Book) (how : How) (d : Deed) : Type 0 where
  pub reads : how_reads book how ≡ length d.reads
  pub value : (locals registers : List ℤ) (used : ℕ) → how_value book how locals registers used ≡ d.value locals (take (length d.reads) (drop used registers))
  pub keeps : (locals : List ℤ) (word : ℤ) → kept_in how.keeps locals word ≡ kept_by d.effect locals word

-- the instances from the first on do what these do
abbrev pub DoRow : Book → List How → ℕ → List Deed → Type 0
DoRow book hows first ds = (n : ℕ) (d : Deed) → slice_get ds n ≡ Some d → Does book (how_at hows (first + n)) d

abbrev pub kept_local : Effect → Option ℕ
kept_local (Sets p) = None
kept_local (Keeps local) = Some local

-- it is an instance of a nest: its statement has the expression of the instance's formula, and its words of other arrays
-- stand where it says
pub record IsInstance (book : Book) (nest : Nest) (a : Lists) (x : List (List ℤ)) (env : List Binding) (how : How) (s : Instance) : Type 0 where
  pub statement : Statement
  pub stands : slice_get book.statements.items how.statement ≡ Some statement
  pub formula_is : s.value ≡ formula a env statement.value
  pub reads : statement.reads ≡ length (shared_reads nest s.value)
  pub written : flagged book.written.items ≡ is_target nest
  pub more : List ℤ
  pub others : drop how.from book.others.items ≡ other_words nest x s.value ++ more
  pub keeps : how.keeps ≡ kept_local s.effect
