-- The pairs of the kept relations alone are the dependences.
use Rattle.std.proofs.Common.{ℕ, ℤ, ◌+◌, ◌<◌, ◌≡◌, ◌↔◌, refl, sym, ◌∙◌, subst, ap, arith, List, [], length, slice_get, Some, pos, negsuc}
use Rattle.std.specs.List.{All, Contains}
use Rattle.std.proofs.lemmas.Int.{ints}
use Rattle.std.proofs.lemmas.Option.{slice_get_within, get_or_from_slice_get}
use Rattle.std.proofs.lemmas.List.Elements.{All-weaker}
use Rattle.loop_core.specs.declared.decl.Decl.{Decl}
use Rattle.loop_core.specs.declared.decl.PropDecl.{PropDecl}
use Rattle.loop_core.specs.declared.nest.Nest.{Nest}
use Rattle.loop_core.specs.declared.nest.Atom.{Atom}
use Rattle.loop_core.specs.Lists.{Lists}
use Rattle.loop_core.specs.Binding.{Binding}
use Rattle.uf_constraints.specs.declared.system.Diff.{Diff}
use Rattle.uf_constraints.specs.declared.system.Relation.{Relation}
use Rattle.uf_constraints.specs.Pairs.{Pairs}
use Rattle.uf_constraints.specs.Relations.{relations}
use Rattle.uf_constraints.specs.Truth.{Holds, AllHold}
use Rattle.index_props.specs.Derivable.{Derivable}
use Rattle.index_props.specs.Meanings.{Passes}
use Rattle.index_props.specs.Rules.{instances_of}
use Rattle.index_props.specs.Sound.{AllNameIndexes, IndexLengths}
use Rattle.cert_check.specs.Answer.{IsTrueFor}
use Rattle.dep_simplify.specs.declared.verdict.Verdict.{Verdict}
use Rattle.dep_simplify.specs.declared.verdict.Verdict.TheVariants.{Dropped, Covered, Kept}
use Rattle.dep_simplify.specs.Systems.{atoms_of, rules_of, IsDropped, IsShown, Covers}
use Rattle.dep_simplify.specs.Verdicts.{IsVerdict, AreVerdicts, IsKept}
use Rattle.dep_simplify.proofs.SoFar.{some_at}

-- what is derivable is true
abbrev pub IsSound : Type 0
IsSound = (u : List Atom) (base : List Diff) (decls : List Decl) (props : List PropDecl) (d : Diff) → AllNameIndexes decls props
    → Derivable u base (instances_of decls props u) d.a d.b d.c → IsTrueFor decls props base d

module _ (nest : Nest) (vs : List Verdict) (are : AreVerdicts nest vs) (sound : IsSound) (names : AllNameIndexes nest.decls nest.props) (a : Lists) (lengths : IndexLengths nest.decls a) (passes : Passes nest.props a) where
  true_for : (r : Relation) (d : Diff) (env : List Binding) → Derivable (atoms_of nest r) r.base (rules_of nest r) d.a d.b d.c → AllHold a env r.base → Holds a env d
  true_for r d env h hold = sound (atoms_of nest r) r.base nest.decls nest.props d names h a env lengths passes hold

  -- a dropped relation has no pairs
  none_dropped : (r : Relation) (i j : ℕ) → IsDropped nest r → Pairs nest.line r a i j → ⊥
  none_dropped r i j h p =
      let d : Diff = record { a = h.0; b = h.0; c = negsuc 0 } in
      let t : Holds a p.0 d = true_for r d p.0 h.1 p.3 in
      omega (arith, ints)

  -- those of a covered one are pairs of the relation that covers it
  covered_pairs : (k r : Relation) (i j : ℕ) → Covers nest k r → Pairs nest.line r a i j → Pairs nest.line k a i j
  covered_pairs k r i j c p = (p.0, p.1, p.2, All-weaker (IsShown nest r) (Holds a p.0) (λ d s. true_for r d p.0 s.derivable p.3) k.base c)

  module _ (i j : ℕ) where
    abbrev KeptPair : Type 0
    KeptPair = (r : Relation) × IsKept nest vs r × Pairs nest.line r a i j

    by_verdict : (n : ℕ) (r : Relation) (v : Verdict) → slice_get (relations nest) n ≡ Some r → slice_get vs n ≡ Some v → IsVerdict nest vs n r v → Pairs nest.line r a i j → KeptPair
    by_verdict n r (Dropped cert) there at h p = absurd (none_dropped r i j h p)
    by_verdict n r (Covered number) there at h p =
        let c = h.1.2.holds in (c.relation, (h.1.0, c.there, c.kept), covered_pairs c.relation r i j c.covers p)
    by_verdict n r Kept there at h p = (r, (n, there, at), p)

    kept_pair : (r : Relation) → Contains (relations nest) r → Pairs nest.line r a i j → KeptPair
    kept_pair r h p =
        let q = some_at (relations nest) h.0 h.1 in
        let e : q.0 ≡ r = sym (get_or_from_slice_get (relations nest) h.0 q.0 r q.1) ∙ h.2 in
        let v = some_at vs h.0 (let l = h.1 in omega (arith, are.long)) in
        let there : slice_get (relations nest) h.0 ≡ Some r = q.1 ∙ ap Some e in
        by_verdict h.0 r v.0 there v.1 (are.each h.0 r v.0 there v.1) p

    pub kept_alone : (D : Type 0) → (D ↔ ((r : Relation) × Contains (relations nest) r × Pairs nest.line r a i j)) → D ↔ KeptPair
    kept_alone D is = (
      λ d. (let f = is.0 d in kept_pair f.0 f.1 f.2),
      λ k. is.1 (k.0, (k.1.0, slice_get_within (relations nest) k.1.0 k.0 k.1.1, get_or_from_slice_get (relations nest) k.1.0 k.0 k.0 k.1.1), k.2),
    )
