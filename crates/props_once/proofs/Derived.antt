-- More instances derive more, and those of properties without repeats are the same ones.
use Rattle.std.proofs.Common.{◌≡◌, ◌⊎◌, inl, inr, ℤ, ◌≤ℤ◌, List, [], ◌∷◌, ◌++◌, refl, sym, ap, subst, arith, zero, suc}
use Rattle.std.specs.List.{Contains, flat_map}
use Rattle.std.proofs.lemmas.List.Elements.{Contains-append_left, Contains-append_right, Contains-append_cases}
use Rattle.loop_core.specs.declared.decl.Decl.{Decl}
use Rattle.loop_core.specs.declared.decl.PropDecl.{PropDecl}
use Rattle.loop_core.specs.declared.nest.Atom.{Atom}
use Rattle.uf_constraints.specs.declared.system.Diff.{Diff}
use Rattle.index_props.specs.declared.rule.RuleInst.{RuleInst}
use Rattle.index_props.specs.Derivable.{Derivable, IsContradictory}
use Rattle.index_props.specs.Derivable.Derivable.{given, same, joined, weaker, fired}
use Rattle.index_props.specs.Entries.{EntryTerms, entries}
use Rattle.index_props.specs.Rules.{equal_instances, property_instances, instances_of}
use Rattle.props_once.specs.Repeats.{without_repeats}
use Rattle.props_once.proofs.Kept.{kept-once, once-declared}

abbrev Into : List RuleInst → List RuleInst → Type 0
Into rules others = (r : RuleInst) → Contains rules r → Contains others r

-- what is derivable by some instances is derivable by more of them
pub more-derivable : (u : List Atom) (base : List Diff) (rules others : List RuleInst) → Into rules others → (a b : Atom) (c : ℤ) → Derivable u base rules a b c → Derivable u base others a b c
more-derivable u base rules others into a b c (given d h) = given d h
more-derivable u base rules others into a b c (same x h) = same x h
more-derivable u base rules others into a b c (joined x y z k l one two) = joined x y z k l (more-derivable u base rules others into x y k one) (more-derivable u base rules others into y z l two)
more-derivable u base rules others into a b c (weaker x y k l h le) = weaker x y k l (more-derivable u base rules others into x y k h) le
more-derivable u base rules others into a b c (fired r d h ps result) = fired r d (into r h) (λ p i. more-derivable u base rules others into p.a p.b p.c (ps p i)) result

-- Members of lists of lists.

pub in_flat : {X Y : Type 0} (f : X → List Y) (xs : List X) (x : X) (y : Y) → Contains xs x → Contains (f x) y → Contains (flat_map f xs) y
in_flat f [] x y (k, l, e) c = absurd (omega arith)
in_flat f (z ∷ xs) x y (zero, l, e) c = Contains-append_left (f z) (flat_map f xs) y (subst (λ w. Contains (f w) y) (sym e) c)
in_flat f (z ∷ xs) x y (suc k, l, e) c = Contains-append_right (f z) (flat_map f xs) y (in_flat f xs x y (k, omega arith, e) c)

from_flat : {X Y : Type 0} (f : X → List Y) (xs : List X) (y : Y) → Contains (flat_map f xs) y → (x : X) × Contains xs x × Contains (f x) y
from_flat f [] y (k, l, e) = absurd (omega arith)
from_flat {X} {Y} f (z ∷ xs) y h = by (Contains-append_cases (f z) (flat_map f xs) y h) (from_flat f xs y)
  where
    by : Contains (f z) y ⊎ Contains (flat_map f xs) y → (Contains (flat_map f xs) y → (x : X) × Contains xs x × Contains (f x) y) → (x : X) × Contains (z ∷ xs) x × Contains (f x) y
    by (inl c) rest = (z, (0, omega arith, refl), c)
    by (inr g) rest = let t = rest g in (t.0, Contains-append_right (z ∷ []) xs t.0 t.1, t.2)

module _ (decls : List Decl) (u : List Atom) where
  abbrev at : PropDecl → List RuleInst
  at p = property_instances decls (entries decls u) p.kind

  -- where each property of one list has its kind in the other, so has each instance
  moved : (props others : List PropDecl) → ((p : PropDecl) → Contains props p → (q : PropDecl) × Contains others q × (q.kind ≡ p.kind)) → Into (instances_of decls props u) (instances_of decls others u)
  moved props others each r h = by (Contains-append_cases equals (flat_map at props) r h)
    where
      equals : List RuleInst
      equals = equal_instances (entries decls u)

      by : Contains equals r ⊎ Contains (flat_map at props) r → Contains (equals ++ flat_map at others) r
      by (inl c) = Contains-append_left equals (flat_map at others) r c
      by (inr c) =
          let p = from_flat at props r c in
          let q = each p.0 p.1 in
          Contains-append_right equals (flat_map at others) r
          (in_flat at others q.0 r q.1 (subst (λ k. Contains (property_instances decls (entries decls u) k) r) (sym q.2) p.2))

  module _ (props : List PropDecl) where
    forth : Into (instances_of decls props u) (instances_of decls (without_repeats props) u)
    forth = moved props (without_repeats props) (kept-once props)

    back : Into (instances_of decls (without_repeats props) u) (instances_of decls props u)
    back = moved (without_repeats props) props (λ q c. (q, once-declared props q c, refl))

    pub derivable-once : (base : List Diff) (a b : Atom) (c : ℤ) → Derivable u base (instances_of decls props u) a b c → Derivable u base (instances_of decls (without_repeats props) u) a b c
    derivable-once base a b c = more-derivable u base (instances_of decls props u) (instances_of decls (without_repeats props) u) forth a b c

    pub once-derivable : (base : List Diff) (a b : Atom) (c : ℤ) → Derivable u base (instances_of decls (without_repeats props) u) a b c → Derivable u base (instances_of decls props u) a b c
    once-derivable base a b c = more-derivable u base (instances_of decls (without_repeats props) u) (instances_of decls props u) back a b c
