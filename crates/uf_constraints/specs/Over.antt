-- Constraints over listed atoms.
use Rattle.std.specs.Prelude.{List}
use Rattle.std.specs.List.{All, Contains}
use Rattle.wave_base.specs.declared.types.ArrayId.{ArrayId}
use Rattle.loop_core.specs.declared.nest.Term.{Term}
use Rattle.loop_core.specs.declared.nest.Atom.{Atom}
use Rattle.loop_core.specs.declared.nest.Atom.TheVariants.{Zero, N, Nnz, At}
use Rattle.uf_constraints.specs.declared.system.Diff.{Diff}

-- both atoms of a constraint are listed
abbrev pub IsOver : List Atom → Diff → Type 0
IsOver atoms d = Contains atoms d.a × Contains atoms d.b

abbrev pub AllOver : List Atom → List Diff → Type 0
AllOver atoms ds = All (IsOver atoms) ds

-- 0, n, nnz and, with each array entry, the atom inside it are listed
pub record IsClosed (atoms : List Atom) : Type 0 where
  pub zero : Contains atoms Zero
  pub n : Contains atoms N
  pub nnz : Contains atoms Nnz
  pub inner : (f : ArrayId) (t : Term) → Contains atoms (At f t) → Contains atoms t.atom

-- the atoms of a list of terms are listed
abbrev pub HasAtoms : List Atom → List Term → Type 0
HasAtoms atoms terms = All (λ t. Contains atoms t.atom) terms
