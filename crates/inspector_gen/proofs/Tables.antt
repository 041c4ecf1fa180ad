-- The least bounds of a closure: there are such, and they are small.
use Rattle.std.proofs.Common.{◌≡◌, ℕ, ◌<◌, ◌≤◌, ◌^◌, ℤ, Bool, true, false, ◌&&◌, nat_lt, unsigned_abs, Option, Some, None, List, length, refl, sym, ◌∙◌, subst, arith}
use Rattle.std.specs.Int.Signed.{◌<ℤ◌, lt_z}
use Rattle.std.proofs.lemmas.Int.{ints}
use Rattle.std.proofs.lemmas.Bool.{false≢true}
use Rattle.std.proofs.lemmas.Bool.Decides.{nat_tests}
use Rattle.loop_core.specs.declared.nest.Nest.{Nest}
use Rattle.loop_core.specs.declared.nest.Atom.{Atom}
use Rattle.uf_constraints.specs.declared.system.Diff.{Diff}
use Rattle.uf_constraints.specs.declared.system.Relation.{Relation}
use Rattle.index_props.specs.declared.rule.RuleInst.{RuleInst}
use Rattle.index_props.specs.Derivable.{Derivable}
use Rattle.index_props.specs.Rules.{instances_of}
use Rattle.bound_table.specs.Rows.{far, Range}
use Rattle.bound_table.proofs.Tight.{range}
use Rattle.bound_ways.specs.Exact.{IsBound, IsLeast}
use Rattle.bound_ways.specs.Places.{place_in}
use Rattle.bound_ways.proofs.Atoms.{place-is}
use Rattle.bound_close.specs.Closure.{Found as Closed, Closed as IsClosed}
use Rattle.bound_close.specs.Workings.{bounds as entries}
use Rattle.dep_extract.proofs.Members.{both, and_true}
use Rattle.inspector_gen.specs.Known.{Bounds, IsTable}
use Rattle.inspector_gen.specs.Made.{facts_of}
use Rattle.inspector_gen.specs.Derived.{AreDerived}
use Rattle.inspector_gen.specs.Own.{IsOwn}
use Rattle.inspector_gen.proofs.Lists.{known_or}

lt_from : (n k : ℕ) → nat_lt n k ≡ true → n < k
lt_from n k e = grind (arith, nat_tests)

lt_to : (n k : ℕ) → n < k → nat_lt n k ≡ true
lt_to n k e = grind (arith, nat_tests)

below_from : (x y : ℤ) → lt_z x y ≡ true → x <ℤ y
below_from x y e = grind (arith, ints)

below_to : (x y : ℤ) → x <ℤ y → lt_z x y ≡ true
below_to x y e = grind (arith, ints)

module _ (k : Closed) (base : List Diff) (rules : List RuleInst) (closed : IsClosed k.atoms base rules k.engine.workings) where
  abbrev at : Atom → ℕ
  at a = place_in k.atoms a

  abbrev entry : Atom → Atom → ℤ
  entry a b = entries k.engine.workings (at a) (at b)

  entry_derivable : (a b : Atom) → at a < length k.atoms → at b < length k.atoms → entry a b <ℤ far → Derivable k.atoms base rules a b (entry a b)
  entry_derivable a b la lb known =
      subst (λ (p : Atom × Atom). Derivable k.atoms base rules p.0 p.1 (entry a b)) (λ i. (place-is k.atoms a la i, place-is k.atoms b lb i)) (closed.exact.sound (at a) (at b) la lb known)

  entry_range : (a b : Atom) → at a < length k.atoms → at b < length k.atoms → entry a b <ℤ far → Range (entry a b)
  entry_range a b la lb known =
      let long = closed.fine.long in
      let table = closed.fine.traced.table in
      range (length k.engine.workings.table.rows.items) (entries k.engine.workings) table.few table.sums (at a) (at b) (omega (arith, la, long)) (omega (arith, lb, long)) known

  within : (z : ℤ) → Range z → unsigned_abs z ≤ 2 ^ 31
  within z r = let h = r.high in let l = r.low in omega (arith, ints, h, l)

  -- a least bound is an entry that is known
  abbrev IsEntry : Atom → Atom → ℤ → Type 0
  IsEntry a b c = (at a < length k.atoms) × (at b < length k.atoms) × (entry a b <ℤ far) × (entry a b ≡ c)

  entry_is : (a b : Atom) (c : ℤ) → IsLeast k.atoms base rules a b c → IsEntry a b c
  entry_is a b c least =
      let t = closed.exact.least a b c least.derivable in
      let up = least.least (entry a b) (entry_derivable a b t.0 t.1 t.2) in
      let down = t.3 in
      (t.0, t.1, t.2, omega (arith, ints, up, down))

  entry_of : (a b : Atom) (o : Option ℤ) (c : ℤ) → IsBound k.atoms base rules a b o → o ≡ Some c → IsEntry a b c
  entry_of a b (Some d) c h e = entry_is a b c (subst (λ (o : Option ℤ). IsBound k.atoms base rules a b o) e h)
  entry_of a b None c h e = absurd (cc)

  entry_small : (a b : Atom) (c : ℤ) → IsEntry a b c → unsigned_abs c ≤ 2 ^ 31
  entry_small a b c t = subst (λ z. unsigned_abs z ≤ 2 ^ 31) t.3 (within (entry a b) (entry_range a b t.0 t.1 t.2))

  -- the entry, where it is known
  abbrev is_known : Atom → Atom → Bool
  is_known a b = nat_lt (at a) (length k.atoms) && (nat_lt (at b) (length k.atoms) && lt_z (entry a b) far)

  abbrev where_known : Bool → ℤ → Option ℤ
  where_known true c = Some c
  where_known false c = None

  pub least_bounds_in : Bounds
  least_bounds_in a b = where_known (is_known a b) (entry a b)

  pub are_least : (a b : Atom) → IsBound k.atoms base rules a b (least_bounds_in a b)
  unfolding least_bounds_in
  are_least a b =
      known_or (is_known a b) (λ t. IsBound k.atoms base rules a b (where_known t (entry a b)))
      (λ e.
      let one = both (nat_lt (at a) (length k.atoms)) (nat_lt (at b) (length k.atoms) && lt_z (entry a b) far) e in
      let two = both (nat_lt (at b) (length k.atoms)) (lt_z (entry a b) far) one.1 in
      record {
        derivable = entry_derivable a b (lt_from (at a) (length k.atoms) one.0) (lt_from (at b) (length k.atoms) two.0) (below_from (entry a b) far two.1);
        least = λ c d. (closed.exact.least a b c d).3;
      })
      (λ e c d.
      let t = closed.exact.least a b c d in
      let all = and_true (nat_lt (at a) (length k.atoms)) (nat_lt (at b) (length k.atoms) && lt_z (entry a b) far) (lt_to (at a) (length k.atoms) t.0)
      (and_true (nat_lt (at b) (length k.atoms)) (lt_z (entry a b) far) (lt_to (at b) (length k.atoms) t.1) (below_to (entry a b) far t.2)) in
      false≢true (sym e ∙ all))

pub bounds_small : (k : Closed) (bounds : Bounds) → IsTable k bounds → (a b : Atom) (c : ℤ) → bounds a b ≡ Some c → unsigned_abs c ≤ 2 ^ 31
bounds_small k bounds table a b c e = by k.refuted refl
  where
    by : (r : Bool) → k.refuted ≡ r → unsigned_abs c ≤ 2 ^ 31
    by true is = absurd (table.consistent (table.closure.refuted is).contradictory)
    by false is =
        let closed = table.closure.found is in
        entry_small k table.base table.rules closed a b c (entry_of k table.base table.rules closed a b (bounds a b) c (table.least a b) e)

-- The closure of a relation's own system.

module _ (nest : Nest) (r : Relation) (k : Closed) (own : IsOwn nest r k) where
  pub closed : IsClosed k.atoms r.base (instances_of nest.decls nest.props k.atoms) k.engine.workings
  closed = own.closure.found own.consistent

  abbrev pub own_bounds : Bounds
  own_bounds = least_bounds_in k r.base (instances_of nest.decls nest.props k.atoms) closed

  pub own_table : IsTable k own_bounds
  own_table = record {
    base = r.base;
    rules = instances_of nest.decls nest.props k.atoms;
    closure = own.closure;
    consistent = closed.exact.consistent;
    least = are_least k r.base (instances_of nest.decls nest.props k.atoms) closed;
  }

  -- whatever else it is a closure of, its least bounds follow from the relation's base
  pub own_derived : (bounds : Bounds) → IsTable k bounds → AreDerived nest r (facts_of nest k bounds)
  own_derived bounds table = record {
    decls = refl;
    props = refl;
    atoms = own.atoms;
    follow = λ x y c e.
        let rules = instances_of nest.decls nest.props k.atoms in
        let t = entry_of k table.base table.rules (table.closure.found own.consistent) x y (bounds x y) c (table.least x y) e in
        subst (Derivable k.atoms r.base rules x y) t.3 (entry_derivable k r.base rules closed x y t.0 t.1 t.2);
  }
