-- An unrolling that goes on by the actions of a script.
use Rattle.std.specs.Prelude.{◌≡◌, ℕ, ◌<◌, ◌≤◌, Contains, Some, List, [], ◌∷◌, ◌++◌, ℤ, length, slice_index_or}
use Rattle.std.specs.List.{flat_map}
use Rattle.sched_types.specs.Order.{tasks_of}
use Rattle.wave_base.specs.declared.types.RowId.{RowId}
use Rattle.loop_core.specs.declared.nest.Nest.{Nest}
use Rattle.loop_core.specs.Lists.{Lists}
use Rattle.loop_core.specs.Shape.{is_target}
use Rattle.sched_types.specs.declared.sched.Task.{Task}
use Rattle.core_law.specs.Works.{Work}
use Rattle.core_law.specs.Scripts.{Action as LawAction, row_actions, task_actions, script}
use Rattle.core_nest.specs.FitNest.{IsFitNest}
use Rattle.core_nest.specs.NestLaws.{plain_work}
use Rattle.core_book.specs.declared.book.Book.{Book}
use Rattle.core_book.specs.declared.book.How.{How}
use Rattle.core_book.specs.declared.book.Statement.{Statement}
use Rattle.core_run.specs.declared.action.Action.{Action}
use Rattle.core_run.specs.Links.{Does}
use Rattle.core_unroll.specs.declared.unrolling.Unrolling.{Unrolling}
use Rattle.core_unroll.specs.Moves.{written_by}

-- the code's actions do what those of a script do, one after another
abbrev pub Match : Work → Book → List How → List LawAction → List Action → Type 0
Match w book hows [] [] = Unit {0}
Match w book hows [] (b ∷ more) = ⊥
Match w book hows (a ∷ rest) [] = ⊥
Match w book hows (a ∷ rest) (b ∷ more) = Does w book hows (Some a) (Some b) × Match w book hows rest more

-- a book that begins with another
pub record Grows (old new : Book) : Type 0 where
  pub statements : (more : List Statement) × (new.statements.items ≡ old.statements.items ++ more)
  pub others : (more : List ℤ) × (new.others.items ≡ old.others.items ++ more)
  pub written : new.written.items ≡ old.written.items

-- a book and instances that begin with those of an unrolling
pub record Extends (u : Unrolling) (book : Book) (hows : List How) : Type 0 where
  pub grows : Grows u.book book
  pub instances : (more : List How) × (hows ≡ u.hows.items ++ more)

-- v comes from u by actions that do what these of the script do, whatever is put down later, and has room for these rows
pub record Advances (w : Work) (u : Unrolling) (script : List LawAction) (rows : List RowId) (v : Unrolling) : Type 0 where
  pub made : List Action
  pub actions : v.actions.items ≡ u.actions.items ++ made
  pub does : (book : Book) (hows : List How) → Extends v book hows → Match w book hows script made
  pub extends : Extends u v.book v.hows.items
  pub values : v.values ≡ u.values
  pub room : u.room ≤ v.room
  pub roomy : (r : RowId) → Contains rows r → length (row_actions w r) ≤ v.room

-- the unrolling of a fit nest over these values knows which arrays the nest writes
pub record IsReady (nest : Nest) (a : Lists) (x : List (List ℤ)) (workers : List (List Task)) (u : Unrolling) : Type 0 where
  pub fit : IsFitNest nest a x workers
  pub values : u.values ≡ x
  pub written : written_by u ≡ is_target nest

-- the rows of a task
abbrev pub rows_of : Task → List RowId
rows_of t = t.rows

-- each of these rows is below n
abbrev pub AreBelow : ℕ → List RowId → Type 0
AreBelow n rows = (r : RowId) → Contains rows r → r.0 < n

-- the unrolling of a fit nest goes on by the actions of a row, of rows, of a task, of tasks
abbrev pub RowAdvances : Nest → Lists → RowId → Unrolling → Unrolling → Type 0
RowAdvances nest a r u v = (x : List (List ℤ)) (workers : List (List Task)) → IsReady nest a x workers u → r.0 < a.n
    → Advances (plain_work nest a x workers) u (row_actions (plain_work nest a x workers) r) (r ∷ []) v

abbrev pub RowsAdvance : Nest → Lists → List RowId → Unrolling → Unrolling → Type 0
RowsAdvance nest a rows u v = (x : List (List ℤ)) (workers : List (List Task)) → IsReady nest a x workers u → AreBelow a.n rows
    → Advances (plain_work nest a x workers) u (flat_map (row_actions (plain_work nest a x workers)) rows) rows v

abbrev pub TaskAdvances : Nest → Lists → Task → Unrolling → Unrolling → Type 0
TaskAdvances nest a task u v = (x : List (List ℤ)) (workers : List (List Task)) → IsReady nest a x workers u → AreBelow a.n task.rows
    → Advances (plain_work nest a x workers) u (task_actions (plain_work nest a x workers) task) task.rows v

abbrev pub TasksAdvance : Nest → Lists → List Task → Unrolling → Unrolling → Type 0
TasksAdvance nest a tasks u v = (x : List (List ℤ)) (workers : List (List Task)) → IsReady nest a x workers u → AreBelow a.n (flat_map rows_of tasks)
    → Advances (plain_work nest a x workers) u (flat_map (task_actions (plain_work nest a x workers)) tasks) (flat_map rows_of tasks) v

-- the first k workers were unrolled into these scripts and instances, and the next worker's are yet to come
pub record AreUnrolled (nest : Nest) (a : Lists) (x : List (List ℤ)) (workers : List (List Task)) (u : Unrolling) (k : ℕ) (scripts : List (List Action)) (hows : List (List How)) : Type 0 where
  pub ready : IsReady nest a x workers u
  pub actions : u.actions.items ≡ []
  pub instances : u.hows.items ≡ []
  pub scripts_long : length scripts ≡ k
  pub hows_long : length hows ≡ k
  pub does : (j : ℕ) → j < k → (book : Book) → Grows u.book book
      → Match (plain_work nest a x workers) book (slice_index_or hows j []) (script (plain_work nest a x workers) j) (slice_index_or scripts j [])
  pub roomy : (j : ℕ) → j < k → (r : RowId) → Contains (flat_map rows_of (tasks_of workers j)) r → length (row_actions (plain_work nest a x workers) r) ≤ u.room
