-- The verdict on a relation with the base of an earlier one.
use Rattle.std.proofs.Common.{ℕ, ◌+◌, ◌<◌, ◌≤◌, ◌≡◌, arith, refl, sym, ◌∙◌, subst, ap, List, [], length, slice_get, get_or, Some, Ok, negsuc}
use Rattle.std.specs.List.{All, Contains}
use Rattle.std.proofs.lemmas.Option.{slice_get_read, same_Some}
use Rattle.std.proofs.lemmas.List.Elements.{All-contains, All-weaker, All-contains_itself}
use Rattle.loop_core.specs.declared.decl.PropDecl.{PropDecl}
use Rattle.loop_core.specs.declared.nest.Nest.{Nest}
use Rattle.loop_core.specs.declared.nest.Atom.{Atom}
use Rattle.uf_constraints.specs.declared.system.Diff.{Diff}
use Rattle.uf_constraints.specs.declared.system.Relation.{Relation}
use Rattle.uf_constraints.specs.Over.{IsOver}
use Rattle.uf_constraints.specs.Relations.{relations}
use Rattle.uf_constraints.specs.Universe.{atoms_due}
use Rattle.uf_constraints.proofs.Listed.{due_over}
use Rattle.index_props.specs.Certificate.{outcome}
use Rattle.index_props.specs.Derivable.{Derivable, IsContradictory}
use Rattle.index_props.specs.Derivable.Derivable.{given}
use Rattle.index_props.specs.Rules.{instances_of}
use Rattle.index_props.specs.Places.{IsLeast}
use Rattle.props_once.specs.Repeats.{without_repeats}
use Rattle.dep_simplify.specs.declared.verdict.Verdict.{Verdict}
use Rattle.dep_simplify.specs.declared.verdict.Verdict.TheVariants.{Dropped, Covered, Kept}
use Rattle.dep_simplify.specs.Ready.{IsNext, IsReady, AreSoFar, IsTwin, again_of}
use Rattle.dep_simplify.specs.Systems.{atoms_of, rules_of, rules_once, IsDropped, IsShown, Covers, IsRefuted}
use Rattle.dep_simplify.specs.Verdicts.{IsCover, IsVerdict, IsCertified}

-- a relation covers each with its base
itself : (nest : Nest) (r : Relation) → Covers nest r r
itself nest r =
    All-weaker (Contains r.base) (IsShown nest r)
    (λ d h. record { over = All-contains (IsOver (atoms_of nest r)) r.base d (due_over r.base [] nest.props) h; derivable = given d h })
    r.base (All-contains_itself r.base)

-- all that is said of a system speaks of its base alone
shown_along : (nest : Nest) (q r : Relation) → q.base ≡ r.base → (d : Diff) → IsShown nest q d → IsShown nest r d
shown_along nest q r e d s =
    record {
      over = subst (λ (b : List Diff). IsOver (atoms_due b [] nest.props) d) e s.over;
      derivable = subst (λ (b : List Diff). Derivable (atoms_due b [] nest.props) b (instances_of nest.decls nest.props (atoms_due b [] nest.props)) d.a d.b d.c) e s.derivable;
    }

covers_along : (nest : Nest) (k q r : Relation) → q.base ≡ r.base → Covers nest k q → Covers nest k r
covers_along nest k q r e h = All-weaker (IsShown nest q) (IsShown nest r) (shown_along nest q r e) k.base h

covered_along : (nest : Nest) (q r k : Relation) → q.base ≡ r.base → Covers nest q k → Covers nest r k
covered_along nest q r k e h = subst (λ (b : List Diff). All (IsShown nest k) b) e h

dropped_along : (nest : Nest) (q r : Relation) → q.base ≡ r.base → IsDropped nest q → IsDropped nest r
dropped_along nest q r e h =
    subst (λ (b : List Diff). IsContradictory (atoms_due b [] nest.props) b (instances_of nest.decls nest.props (atoms_due b [] nest.props))) e h

certified_along : (nest : Nest) (q r : Relation) (v : Verdict) (k : ℕ) → q.base ≡ r.base → IsCertified nest q v → IsCertified nest r (again_of v k)
certified_along nest q r (Dropped cert) k e h =
    subst (λ (b : List Diff). (a : Atom) × (outcome (atoms_due b [] nest.props) b (instances_of nest.decls (without_repeats nest.props) (atoms_due b [] nest.props)) [] cert.steps ≡ Ok (record { a = a; b = a; c = negsuc 0 }))) e h
certified_along nest q r (Covered number) k e h = tt
certified_along nest q r Kept k e h = tt

module _ (nest : Nest) (vs : List Verdict) (so : AreSoFar nest vs) (k : ℕ) (q : Relation) (v : Verdict) (lt : k < length vs) (there : slice_get (relations nest) k ≡ Some q) (at : slice_get vs k ≡ Some v) where
  module _ (r : Relation) (same : q.base ≡ r.base) where
    cover_along : (j : ℕ) → IsCover nest vs k q j → IsCover nest vs (length vs) r j
    cover_along j c = record { earlier = (let e = c.earlier in omega arith); kept = c.kept; relation = c.relation; there = c.there; covers = covers_along nest c.relation q r same c.covers }

    cover_back : (j : ℕ) → j < k → IsCover nest vs (length vs) r j → IsCover nest vs k q j
    cover_back j l c = record { earlier = l; kept = c.kept; relation = c.relation; there = c.there; covers = covers_along nest c.relation r q (sym same) c.covers }

    verdict_again : (w : Verdict) → slice_get vs k ≡ Some w → IsVerdict nest vs k q w → IsVerdict nest vs (length vs) r (again_of w k)
    verdict_again (Dropped cert) is h = dropped_along nest q r same h
    verdict_again (Covered number) is h = (
      λ d. h.0 (dropped_along nest r q (sym same) d),
      (
        h.1.0,
        h.1.1,
        record {
          holds = cover_along h.1.0 h.1.2.holds;
          least = λ j l c. h.1.2.least j l (cover_back j (let e = h.1.2.holds.earlier in omega arith) c);
        },
      ),
    )
    verdict_again Kept is h = (
      λ d. h.0 (dropped_along nest r q (sym same) d),
      (
        k,
        refl,
        record {
          holds = record { earlier = lt; kept = is; relation = q; there = there; covers = covered_along nest r q r (sym same) (itself nest r) };
          least = λ j l c. h.1 j (cover_back j l c);
        },
      ),
    )

  pub next_again : (other : Relation) → slice_get (relations nest) (length vs) ≡ Some other → q.base ≡ other.base → IsNext nest vs (again_of v k)
  next_again other here e = record {
    verdict = λ r h. verdict_again r (same_base r h) v at (so.each k q v there at);
    certified = λ r h. certified_along nest q r v k (same_base r h) (so.certified k q v there at);
  } where
    base_is : q.base ≡ other.base
    base_is = e

    same_base : (r : Relation) → slice_get (relations nest) (length vs) ≡ Some r → q.base ≡ r.base
    same_base r h = base_is ∙ ap (λ (x : Relation). x.base) (same_Some other r (sym here ∙ h))

-- What the search for an earlier relation answers, and what is said of the later one then.

pub twin_at : (all : List Relation) (at k : ℕ) (r s : Relation) → k < at → at < length all → r ≡ get_or all k r → s ≡ get_or all at s → r.base ≡ s.base → IsTwin all at k
twin_at all at k r s before inside is it same =
    let lt : k < length all = omega arith in
    record {
      earlier = before;
      relation = r;
      there = slice_get_read all (length all) k r refl lt is;
      other = s;
      here = slice_get_read all (length all) at s refl inside it;
      same = same;
    }

pub said_again : (nest : Nest) (props : List PropDecl) (all : List Relation) → IsReady nest props all → (vs : List Verdict) → AreSoFar nest vs → (k : ℕ) → IsTwin all (length vs) k → (v w : Verdict) → v ≡ get_or vs k v → w ≡ again_of v k → IsNext nest vs w
said_again nest props all ready vs so k t v w is e =
    let there : slice_get (relations nest) k ≡ Some t.relation = subst (λ (l : List Relation). slice_get l k ≡ Some t.relation) ready.listed t.there in
    let here : slice_get (relations nest) (length vs) ≡ Some t.other = subst (λ (l : List Relation). slice_get l (length vs) ≡ Some t.other) ready.listed t.here in
    let at : slice_get vs k ≡ Some v = slice_get_read vs (length vs) k v refl t.earlier is in
    subst (IsNext nest vs) (sym e) (next_again nest vs so k t.relation v t.earlier there at t.other here t.same)
