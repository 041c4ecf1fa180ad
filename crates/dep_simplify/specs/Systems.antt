-- The system of constraints of a relation, and what follows there.
use Rattle.std.specs.Prelude.{negsuc, ◌≡◌, List, [], Ok}
use Rattle.std.specs.List.{All}
use Rattle.loop_core.specs.declared.nest.Nest.{Nest}
use Rattle.loop_core.specs.declared.nest.Atom.{Atom}
use Rattle.uf_constraints.specs.declared.system.Diff.{Diff}
use Rattle.uf_constraints.specs.declared.system.Relation.{Relation}
use Rattle.uf_constraints.specs.Over.{IsOver}
use Rattle.uf_constraints.specs.Universe.{atoms_due}
use Rattle.index_props.specs.declared.rule.RuleInst.{RuleInst}
use Rattle.index_props.specs.declared.certificate.Cert.{Cert}
use Rattle.index_props.specs.Certificate.{outcome}
use Rattle.index_props.specs.Derivable.{Derivable, IsContradictory}
use Rattle.index_props.specs.Rules.{instances_of}
use Rattle.props_once.specs.Repeats.{without_repeats}

-- the atoms of a relation's base, with what the properties ask for beside them
abbrev pub atoms_of : Nest → Relation → List Atom
atoms_of nest r = atoms_due r.base [] nest.props

-- the instances of the declared properties at these atoms
abbrev pub rules_of : Nest → Relation → List RuleInst
rules_of nest r = instances_of nest.decls nest.props (atoms_of nest r)

-- and those of the properties without repeats
abbrev pub rules_once : Nest → Relation → List RuleInst
rules_once nest r = instances_of nest.decls (without_repeats nest.props) (atoms_of nest r)

-- the base contradicts itself
abbrev pub IsDropped : Nest → Relation → Type 0
IsDropped nest r = IsContradictory (atoms_of nest r) r.base (rules_of nest r)

-- a constraint between atoms of the system follows there
pub record IsShown (nest : Nest) (r : Relation) (d : Diff) : Type 0 where
  pub over : IsOver (atoms_of nest r) d
  pub derivable : Derivable (atoms_of nest r) r.base (rules_of nest r) d.a d.b d.c

-- so does each base constraint of another relation
abbrev pub Covers : Nest → Relation → Relation → Type 0
Covers nest k r = All (IsShown nest r) k.base

-- the certificate passes the check, by the properties without repeats, and shows that some atom is below itself
abbrev pub IsRefuted : Nest → Relation → Cert → Type 0
IsRefuted nest r cert =
    (a : Atom) × (outcome (atoms_of nest r) r.base (rules_once nest r) [] cert.steps ≡ Ok (record { a = a; b = a; c = negsuc 0 }))
