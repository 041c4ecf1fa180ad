-- The least bounds that follow from a base follow from it.
use Rattle.std.proofs.Common.{◌≡◌, ℤ, Option, Some, None, List, [], refl, subst}
use Rattle.std.proofs.lemmas.Option.{same_Some}
use Rattle.loop_core.specs.declared.nest.Nest.{Nest}
use Rattle.loop_core.specs.declared.nest.Atom.{Atom}
use Rattle.uf_constraints.specs.declared.system.Diff.{Diff}
use Rattle.uf_constraints.specs.declared.system.Relation.{Relation}
use Rattle.uf_constraints.specs.Universe.{atoms_due}
use Rattle.index_props.specs.declared.rule.RuleInst.{RuleInst}
use Rattle.index_props.specs.Derivable.{Derivable}
use Rattle.index_props.specs.Rules.{instances_of}
use Rattle.bound_ways.specs.Exact.{IsBound}
use Rattle.bound_close.specs.Closure.{Found as Closed}
use Rattle.inspector_gen.specs.Known.{Bounds}
use Rattle.inspector_gen.specs.Made.{facts_of}
use Rattle.inspector_gen.specs.Derived.{AreDerived}

least_follows : (u : List Atom) (base : List Diff) (rules : List RuleInst) (x y : Atom) (o : Option ℤ) (c : ℤ) → IsBound u base rules x y o → o ≡ Some c → Derivable u base rules x y c
least_follows u base rules x y (Some d) c h e = subst (λ (z : ℤ). Derivable u base rules x y z) (same_Some d c e) h.derivable
least_follows u base rules x y None c h e = absurd (cc)

pub least_bounds : (nest : Nest) (r : Relation) (k : Closed) (bounds : Bounds) → k.atoms ≡ atoms_due r.base [] nest.props
    → ((x y : Atom) → IsBound k.atoms r.base (instances_of nest.decls nest.props k.atoms) x y (bounds x y)) → AreDerived nest r (facts_of nest k bounds)
least_bounds nest r k bounds atoms least = record {
  decls = refl;
  props = refl;
  atoms = atoms;
  follow = λ x y c is. least_follows k.atoms r.base (instances_of nest.decls nest.props k.atoms) x y (bounds x y) c (least x y) is;
}
