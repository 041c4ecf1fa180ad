-- What the facts of a plan say of a relation.
use Rattle.std.specs.Prelude.{◌≡◌, ℕ, ℤ, Some, []}
use Rattle.wave_base.specs.declared.types.RowId.{RowId}
use Rattle.loop_core.specs.declared.nest.Nest.{Nest}
use Rattle.loop_core.specs.declared.nest.Atom.{Atom}
use Rattle.uf_constraints.specs.declared.system.Relation.{Relation}
use Rattle.uf_constraints.specs.Universe.{atoms_due}
use Rattle.index_props.specs.Derivable.{Derivable}
use Rattle.index_props.specs.Rules.{instances_of}
use Rattle.inspector_gen.specs.Kinds.{Facts}

-- the facts are those of the nest and of the atoms of the relation's system, and each known bound follows from its base
pub record AreDerived (nest : Nest) (r : Relation) (f : Facts) : Type 0 where
  pub decls : f.decls ≡ nest.decls
  pub props : f.props ≡ nest.props
  pub atoms : f.atoms ≡ atoms_due r.base [] nest.props
  pub follow : (x y : Atom) (c : ℤ) → f.bounds x y ≡ Some c → Derivable f.atoms r.base (instances_of nest.decls nest.props f.atoms) x y c

-- rows i and j
abbrev pub rows : ℕ → ℕ → RowId × RowId
rows i j = (record { 0 = i }, record { 0 = j })
