-- What one instance leaves of an unrolling.
use Rattle.std.specs.Prelude.{◌≡◌, ℕ, ◌+◌, Bool, Some, List, [], ◌∷◌, ◌++◌, length, slice_get}
use Rattle.wave_base.specs.declared.types.ArrayId.{ArrayId}
use Rattle.loop_core.specs.declared.nest.Expr.{Expr}
use Rattle.loop_core.specs.Lists.{Lists}
use Rattle.loop_core.specs.Binding.{Binding}
use Rattle.loop_core.specs.Instances.{Instance, formula}
use Rattle.core_value.specs.Taken.{flagged}
use Rattle.core_book.specs.declared.book.How.{How}
use Rattle.core_book.specs.declared.book.Statement.{Statement}
use Rattle.core_book.specs.Follows.{kept_local}
use Rattle.core_unroll.specs.declared.unrolling.Unrolling.{Unrolling}
use Rattle.core_unroll.specs.Plans.{shared_by, others_by, actions_of}

-- the statement of this number has this expression and so many reads of written arrays
abbrev pub IsStatement : List Statement → ℕ → Expr → ℕ → Type 0
IsStatement statements at value reads = slice_get statements at ≡ Some (record { value = value; reads = reads })

-- some statements were put behind these
abbrev pub GrewTo : List Statement → List Statement → Type 0
GrewTo old new = (more : List Statement) × (new ≡ old ++ more)

abbrev pub written_by : Unrolling → ArrayId → Bool
written_by u = flagged u.book.written.items

-- the instance s was put down: its actions, its words of other arrays, and how its value comes about
pub record IsMove (u : Unrolling) (s : Instance) (v : Unrolling) : Type 0 where
  pub how : How
  pub expr : Expr
  pub index : Lists
  pub env : List Binding
  pub value : s.value ≡ formula index env expr
  pub stands : IsStatement v.book.statements.items how.statement expr (length (shared_by (written_by u) s.value))
  pub keeps : how.keeps ≡ kept_local s.effect
  pub before : how.before ≡ u.before
  pub from : how.from ≡ length u.book.others.items
  pub hows : v.hows.items ≡ u.hows.items ++ how ∷ []
  pub actions : v.actions.items ≡ u.actions.items ++ actions_of (written_by u) (length u.hows.items) s
  pub others : v.book.others.items ≡ u.book.others.items ++ others_by (written_by u) u.values s.value
  pub statements : GrewTo u.book.statements.items v.book.statements.items
  pub written : v.book.written.items ≡ u.book.written.items
  pub values : v.values ≡ u.values
  pub next : v.before ≡ u.before + 1
  pub room : v.room ≡ u.room
