-- What the facts of a plan are made from.
use Rattle.std.specs.Prelude.{◌≡◌, List}
use Rattle.loop_core.specs.declared.decl.Decl.{Decl}
use Rattle.loop_core.specs.declared.decl.PropDecl.{PropDecl}
use Rattle.loop_core.specs.declared.nest.Nest.{Nest}
use Rattle.bound_close.specs.Closure.{Found as Closed}
use Rattle.inspector_gen.specs.Known.{Bounds, IsTable}
use Rattle.inspector_gen.specs.Kinds.{Facts}

-- these declarations and properties, the atoms of a closure, and its least bounds
pub record AreFacts (decls : List Decl) (props : List PropDecl) (k : Closed) (f : Facts) : Type 0 where
  pub decls_are : f.decls ≡ decls
  pub props_are : f.props ≡ props
  pub atoms_are : f.atoms ≡ k.atoms
  pub table : IsTable k f.bounds

-- of a nest
abbrev pub facts_of : Nest → Closed → Bounds → Facts
facts_of nest k bounds = record { decls = nest.decls; props = nest.props; atoms = k.atoms; bounds = bounds }
