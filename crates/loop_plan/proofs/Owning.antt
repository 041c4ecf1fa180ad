-- The closure of a relation that isn't dropped is that of its own system.
use Rattle.std.proofs.Common.{◌≡◌, ◌∙◌, List, sym, subst, ap}
use Rattle.std.specs.List.{Contains}
use Rattle.loop_core.specs.declared.nest.Nest.{Nest}
use Rattle.loop_core.specs.declared.nest.Atom.{Atom}
use Rattle.loop_core.specs.IsNest.{IsNest}
use Rattle.uf_constraints.specs.declared.system.Diff.{Diff}
use Rattle.uf_constraints.specs.declared.system.Relation.{Relation}
use Rattle.uf_constraints.specs.Relations.{relations}
use Rattle.index_props.specs.declared.rule.RuleInst.{RuleInst}
use Rattle.index_props.specs.Derivable.{IsContradictory}
use Rattle.index_props.specs.Rules.{instances_of}
use Rattle.bound_close.specs.Closure.{Found, IsClosure}
use Rattle.bound_close.proofs.Closes.{not-refuted}
use Rattle.dep_simplify.specs.Systems.{atoms_of, IsDropped}
use Rattle.inspector_gen.specs.Own.{IsOwn}

pub owns : (nest : Nest) (r : Relation) (k : Found) (u : List Atom) (base : List Diff) (rules : List RuleInst) → IsNest nest → Contains (relations nest) r → (IsDropped nest r → ⊥)
    → k.atoms ≡ u → u ≡ atoms_of nest r → base ≡ r.base → rules ≡ instances_of nest.decls nest.props u → IsClosure k base rules → IsOwn nest r k
owns nest r k u base rules is_nest listed kept atoms due same made closure =
    let at : List Atom → List RuleInst = instances_of nest.decls nest.props in
    let all : k.atoms ≡ atoms_of nest r = atoms ∙ due in
    let rules_are : rules ≡ at k.atoms = made ∙ ap at (sym atoms) in
    let own : IsClosure k r.base (at k.atoms) = subst (λ (z : List Diff × List RuleInst). IsClosure k z.0 z.1) (λ i. (same i, rules_are i)) closure in
    record {
      is_nest = is_nest;
      listed = listed;
      atoms = all;
      closure = own;
      consistent = not-refuted k r.base (at k.atoms) own (λ bad. kept (subst (λ (us : List Atom). IsContradictory us r.base (at us)) all bad));
    }
