-- By the properties without repeats a nest is accepted and refused as by all of them.
use Rattle.std.proofs.Common.{◌≡◌, ◌⊎◌, inl, inr, ℕ, negsuc, List, [], ◌∷◌, ◌++◌, map, length, sym, subst}
use Rattle.std.specs.List.{All}
use Rattle.std.proofs.lemmas.List.Elements.{All-weaker}
use Rattle.loop_core.specs.declared.decl.Decl.{Decl}
use Rattle.loop_core.specs.declared.decl.PropDecl.{PropDecl}
use Rattle.loop_core.specs.declared.nest.Nest.{Nest}
use Rattle.loop_core.specs.declared.nest.Atom.{Atom}
use Rattle.uf_constraints.specs.declared.system.Diff.{Diff}
use Rattle.uf_constraints.specs.declared.system.Relation.{Relation}
use Rattle.uf_constraints.specs.Relations.{relations}
use Rattle.index_props.specs.Derivable.{Derivable, IsContradictory}
use Rattle.index_props.specs.Rules.{instances_of}
use Rattle.props_once.specs.Repeats.{without_repeats}
use Rattle.props_once.proofs.Derived.{derivable-once, once-derivable}
use Rattle.props_once.proofs.Due.{due-once}
use Rattle.bracket_claims.specs.declared.claim.Claim.{Claim}
use Rattle.access_bounds.specs.declared.refusal.BoundsRefusal.{BoundsRefusal}
use Rattle.access_bounds.specs.declared.refusal.BoundsRefusal.TheVariants.{TermsFull, Unbounded, Memory}
use Rattle.access_bounds.specs.declared.refusal.Side2.{Side2}
use Rattle.access_bounds.specs.declared.refusal.Side2.TheVariants.{Low, High}
use Rattle.access_bounds.specs.Accepted.{IsUnreached, IsShown, IsBounded, Lacks, IsAcceptedBy, IsFullBy, IsUnboundedBy, IsCauseBy}
use Rattle.bracket_claims.specs.Claims.{atoms_of, rules_of, low, high, claims, sizes, Size, Fits}
use Rattle.access_bounds.specs.First.{IsFirstNot}
use Rattle.access_bounds.proofs.Firsts.{first-weaker}

module _ (decls : List Decl) (props : List PropDecl) where
  abbrev once : List PropDecl
  once = without_repeats props

  same_atoms : (c : Claim) → atoms_of once c ≡ atoms_of props c
  same_atoms c = due-once c.base (c.at ∷ []) props

  shown_from : (c : Claim) (d : Diff) → IsShown decls once c d → IsShown decls props c d
  shown_from c d h =
      once-derivable decls (atoms_of props c) props c.base d.a d.b d.c
      (subst (λ (u : List Atom). Derivable u c.base (instances_of decls once u) d.a d.b d.c) (same_atoms c) h)

  shown_to : (c : Claim) (d : Diff) → IsShown decls props c d → IsShown decls once c d
  shown_to c d h =
      subst (λ (u : List Atom). Derivable u c.base (instances_of decls once u) d.a d.b d.c) (sym (same_atoms c))
      (derivable-once decls (atoms_of props c) props c.base d.a d.b d.c h)

  unreached_from : (c : Claim) → IsUnreached decls once c → IsUnreached decls props c
  unreached_from c h = (h.0, shown_from c (record { a = h.0; b = h.0; c = negsuc 0 }) h.1)

  unreached_to : (c : Claim) → IsUnreached decls props c → IsUnreached decls once c
  unreached_to c h = (h.0, shown_to c (record { a = h.0; b = h.0; c = negsuc 0 }) h.1)

  bounded_from : (c : Claim) → IsBounded decls once c → IsBounded decls props c
  bounded_from c (inl u) = inl (unreached_from c u)
  bounded_from c (inr h) = inr (shown_from c (low c) h.0, shown_from c (high c) h.1)

  bounded_to : (c : Claim) → IsBounded decls props c → IsBounded decls once c
  bounded_to c (inl u) = inl (unreached_to c u)
  bounded_to c (inr h) = inr (shown_to c (low c) h.0, shown_to c (high c) h.1)

  lacks_from : (c : Claim) (s : Side2) → Lacks decls once c s → Lacks decls props c s
  lacks_from c Low h = (λ u. h.0 (unreached_to c u), λ g. h.1 (shown_to c (low c) g))
  lacks_from c High h = (λ u. h.0 (unreached_to c u), shown_from c (low c) h.1, λ g. h.2 (shown_to c (high c) g))

module _ (nest : Nest) where
  abbrev kept : List PropDecl
  kept = without_repeats nest.props

  same_sizes : sizes nest kept ≡ sizes nest nest.props
  same_sizes = λ i.
      map (λ (c : Claim). let z : Size = record { line = c.line; atoms = length (due-once c.base (c.at ∷ []) nest.props i) } in z) (claims nest)
      ++ map (λ (r : Relation). let z : Size = record { line = r.second.line; atoms = length (due-once r.base [] nest.props i) } in z) (relations nest)

  few_from : All Fits (sizes nest kept) → All Fits (sizes nest nest.props)
  few_from h = subst (All Fits) same_sizes h

  pub accepted-from : IsAcceptedBy nest kept → IsAcceptedBy nest nest.props
  accepted-from h = record {
    few = few_from h.few;
    bounded = All-weaker (IsBounded nest.decls kept) (IsBounded nest.decls nest.props) (bounded_from nest.decls nest.props) (claims nest) h.bounded;
  }

  pub cause-from : (r : BoundsRefusal) → IsCauseBy nest kept r → IsCauseBy nest nest.props r
  cause-from (TermsFull line) h = (h.0, subst (λ (zs : List Size). IsFirstNot Fits zs h.0) same_sizes h.1, h.2)
  cause-from (Unbounded line bracket side) h = record {
    few = few_from h.few;
    claim = h.claim;
    first = first-weaker (IsBounded nest.decls kept) (IsBounded nest.decls nest.props) (bounded_from nest.decls nest.props) (bounded_to nest.decls nest.props) (claims nest) h.claim h.first;
    lacks = lacks_from nest.decls nest.props h.claim side h.lacks;
    at_line = h.at_line;
    at_bracket = h.at_bracket;
  }
  cause-from Memory h = tt
