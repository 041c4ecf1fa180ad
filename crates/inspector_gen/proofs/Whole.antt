-- The plans of a relation are plans, and inspect it.
use Rattle.std.proofs.Common.{◌≡◌, ◌↔◌, ℕ, ◌+◌, ◌≤◌, Some, ◌^◌, ℤ, true, unsigned_abs, List, [], refl, sym, ap, ◌∙◌, subst}
use Rattle.std.specs.List.{All, Contains, flat_map}
use Rattle.std.proofs.lemmas.List.Elements.{All-contains, All-contains_itself}
use Rattle.loop_core.specs.declared.decl.Decl.{Decl}
use Rattle.loop_core.specs.declared.decl.PropDecl.{PropDecl}
use Rattle.loop_core.specs.declared.nest.Nest.{Nest}
use Rattle.loop_core.specs.declared.nest.Side.TheVariants.{First, Second}
use Rattle.loop_core.specs.declared.nest.VarId.{VarId}
use Rattle.loop_core.specs.declared.nest.Atom.{Atom}
use Rattle.loop_core.specs.declared.nest.Atom.TheVariants.{At}
use Rattle.loop_core.specs.Lists.{Lists}
use Rattle.loop_core.specs.Binding.{Binding}
use Rattle.loop_core.specs.Sizes.{declared_length}
use Rattle.loop_core.specs.IsNest.{IsNest}
use Rattle.uf_constraints.specs.declared.system.Diff.{Diff}
use Rattle.uf_constraints.specs.declared.system.Relation.{Relation}
use Rattle.uf_constraints.specs.declared.reach.Site.{Site}
use Rattle.uf_constraints.specs.Bases.{relation_base}
use Rattle.uf_constraints.specs.Constants.{IndexesWithin}
use Rattle.uf_constraints.specs.Over.{IsClosed}
use Rattle.uf_constraints.specs.Pairs.{Pairs}
use Rattle.uf_constraints.specs.Relations.{sites, are_related, relation, related, relations}
use Rattle.uf_constraints.specs.Truth.{AllHold}
use Rattle.uf_constraints.specs.Universe.{atoms_due}
use Rattle.uf_constraints.proofs.Listed.{due_closed}
use Rattle.index_props.specs.Derivable.{Derivable}
use Rattle.index_props.specs.Meanings.{Passes}
use Rattle.index_props.specs.Rules.{instances_of}
use Rattle.index_props.specs.Sound.{AllNameIndexes, IndexLengths}
use Rattle.cert_check.specs.Answer.{IsTrueFor}
use Rattle.bracket_claims.specs.Small.{IsSmallBase}
use Rattle.dep_extract.proofs.Members.{from_flat, kept_is}
use Rattle.bound_close.specs.Closure.{Found as Closed}
use Rattle.inspector_run.specs.Pairs.{emitted}
use Rattle.inspector_run.specs.Ready.{SearchesAscending}
use Rattle.inspector_run.specs.IsPlan.{IsPlan}
use Rattle.inspector_gen.specs.declared.kind.Kind.{Kind}
use Rattle.inspector_gen.specs.declared.kind.Kind.TheVariants.{Looped}
use Rattle.inspector_gen.specs.declared.unknown.Unknown.{Unknown}
use Rattle.inspector_gen.specs.Known.{Bounds, IsTable}
use Rattle.inspector_gen.specs.Kinds.{Facts, is_rising, kind_of}
use Rattle.inspector_gen.specs.Made.{facts_of}
use Rattle.inspector_gen.specs.Variables.{variable, first_side_first, second_side_first}
use Rattle.inspector_gen.specs.Plans.{operation, is_cheaper, kinds_from, cheaper, plan_in, plan_of}
use Rattle.inspector_gen.specs.Quick.{quicker, quick_plan_of}
use Rattle.inspector_gen.specs.Plain.{looped, plain_plan_of}
use Rattle.inspector_gen.specs.Derived.{AreDerived, rows}
use Rattle.inspector_gen.specs.Own.{IsOwn, Inspects}
use Rattle.inspector_gen.proofs.Along.{along_weaker, IsTried, HasBoth}
use Rattle.inspector_gen.proofs.Chosen.{kind_tries}
use Rattle.inspector_gen.proofs.Based.{low_is, apart_is, high_is}
use Rattle.inspector_gen.proofs.Indexed.{entries_indexed}
use Rattle.inspector_gen.proofs.Constants.{due_within, atom_small, index_small}
use Rattle.inspector_gen.proofs.Tables.{bounds_small, own_derived}
use Rattle.inspector_gen.proofs.Formed.{IsGoodAt, formed_plan, all_operations}
use Rattle.inspector_gen.proofs.Good.{kind_good, kind_searches, loop_searches}
use Rattle.inspector_gen.proofs.Exact.{emitted_are, rising_list, indexed, both_positive}
use Rattle.inspector_gen.proofs.Taken.{Tries, Good, IsSided, IsOrder, sided_first, sided, sided_order, quicker_order}

abbrev pub GivesPairs : Nest → Lists → (List VarId → VarId → Kind) → Relation → List Unknown → Type 0
GivesPairs nest a kind r us = (i j : ℕ) → Contains (emitted a (plan_in kind nest r us)) (rows i j) ↔ Pairs nest.line r a i j

-- By any kinds and any order.

module _ (nest : Nest) (is_nest : IsNest nest) (s t : Site) (in_s : Contains (sites nest) s) (in_t : Contains (sites nest) t) (kind : List VarId → VarId → Kind) where
  abbrev base : List Diff
  base = relation_base nest s t

  abbrev i_var : VarId
  i_var = variable nest.line First

  abbrev j_var : VarId
  j_var = variable nest.line Second

  abbrev Ordered : List Unknown → Type 0
  Ordered us = IsOrder nest is_nest s t in_s in_t kind us

  -- the value of each unknown is tried where, in case it is looped, the loop tries it
  abbrev AreTried : Lists → List Binding → Type 0
  AreTried a e = (earlier : List VarId) (u : Unknown) → (kind earlier u.var ≡ Looped → Tries nest is_nest s t in_s in_t a e earlier u) → IsTried a e kind earlier u

  order_gives : (a : Lists) → ((e : List Binding) → AllHold a e base → AreTried a e) → (us : List Unknown) → Ordered us → GivesPairs nest a kind (relation nest s t) us
  order_gives a by_kind us order =
      emitted_are a kind base i_var j_var (λ e hold. both_positive nest is_nest s t in_s in_t a e hold) us order.fresh
      (λ e hold. along_weaker (λ earlier u. kind earlier u.var ≡ Looped → Tries nest is_nest s t in_s in_t a e earlier u) (IsTried a e kind) (HasBoth i_var j_var) (HasBoth i_var j_var)
      (by_kind e hold) (λ earlier h. h) [] us (order.tries a e hold))

  -- and its operation is good where, in case it is looped, the loop is
  abbrev AreGood : Type 0
  AreGood = (earlier : List VarId) (u : Unknown) → (kind earlier u.var ≡ Looped → Good nest is_nest s t in_s in_t earlier u) → IsGoodAt earlier (operation earlier u (kind earlier u.var))

  in_base : All (Contains base) base
  in_base = All-contains_itself base

  order_plans : IsSmallBase base → AreGood → (us : List Unknown) → Ordered us → IsPlan (plan_in kind nest (relation nest s t) us)
  order_plans small by_kind us order =
      formed_plan kind base i_var j_var us order.fresh
      (along_weaker (λ earlier u. kind earlier u.var ≡ Looped → Good nest is_nest s t in_s in_t earlier u) (λ earlier u. IsGoodAt earlier (operation earlier u (kind earlier u.var))) (HasBoth i_var j_var) (HasBoth i_var j_var)
      by_kind (λ earlier h. h) [] us order.good)
      (λ k d lt. ((small.within k d lt).0, (small.within k d lt).1, small.sides k d lt))
      (low_is (Contains base) nest s t in_base) (apart_is (Contains base) nest s t in_base) (high_is (Contains base) nest s t in_base) order.few

-- Relations of a nest.

module _ (nest : Nest) (P : Relation → Type 0) (each : (s t : Site) → Contains (sites nest) s → Contains (sites nest) t → Contains (relations nest) (relation nest s t) → P (relation nest s t)) where
  each_relation : (r : Relation) → Contains (relations nest) r → P r
  each_relation r c =
      let g = from_flat (λ s. flat_map (related nest s) (sites nest)) (sites nest) r c in
      let h = from_flat (related nest g.0) (sites nest) r g.2 in
      let k = kept_is (are_related g.0 h.0) (relation nest g.0 h.0) r h.2 in
      subst P k.1 (each g.0 h.0 g.1 h.1 (subst (Contains (relations nest)) (sym k.1) c))

abbrev pub AreSmall : Nest → Type 0
AreSmall nest = All (λ r. IsSmallBase r.base) (relations nest)

abbrev pub DerivableIsTrue : Type 0
DerivableIsTrue =
    (u : List Atom) (base : List Diff) (decls : List Decl) (props : List PropDecl) (d : Diff) → AllNameIndexes decls props
    → Derivable u base (instances_of decls props u) d.a d.b d.c → IsTrueFor decls props base d

module _ (nest : Nest) (is_nest : IsNest nest) (small : AreSmall nest) where
  small_base : (s t : Site) → Contains (relations nest) (relation nest s t) → IsSmallBase (relation_base nest s t)
  small_base s t c = All-contains (λ (r : Relation). IsSmallBase r.base) (relations nest) (relation nest s t) small c

  -- The plain plan.

  pub plain_plans : (r : Relation) → Contains (relations nest) r → IsPlan (plain_plan_of nest r)
  plain_plans =
      each_relation nest (λ r. IsPlan (plain_plan_of nest r))
      (λ s t in_s in_t c.
      let base_small = small_base s t c in
      let us = first_side_first nest (relation nest s t) in
      order_plans nest is_nest s t in_s in_t looped base_small (λ earlier u h. h refl) us
      (sided_order nest is_nest s t in_s in_t looped us (sided_first nest is_nest s t in_s in_t base_small)))

  pub plain_gives : (r : Relation) → Contains (relations nest) r → (a : Lists) → Inspects nest r a (plain_plan_of nest r)
  plain_gives r c a = record {
    ascending = all_operations looped r.base (variable nest.line First) (variable nest.line Second) (SearchesAscending a) (first_side_first nest r) [] (λ l u. loop_searches a l u.var u.span) (λ d. tt) tt;
    pairs = each_relation nest (λ q. GivesPairs nest a looped q (first_side_first nest q))
        (λ s t in_s in_t d.
        let us = first_side_first nest (relation nest s t) in
        order_gives nest is_nest s t in_s in_t looped a (λ e hold earlier u h. h refl) us
        (sided_order nest is_nest s t in_s in_t looped us (sided_first nest is_nest s t in_s in_t (small_base s t d)))) r c;
  }

  -- Plans by what is known.

  module _ (f : Facts) where
    abbrev kind : List VarId → VarId → Kind
    kind = kind_of f

    abbrev cheaper_order : Relation → List Unknown
    cheaper_order r = cheaper kind (first_side_first nest r) (second_side_first nest r)

    cheaper_is : (s t : Site) (in_s : Contains (sites nest) s) (in_t : Contains (sites nest) t) → Contains (relations nest) (relation nest s t) → IsSided nest is_nest s t in_s in_t (cheaper_order (relation nest s t))
    cheaper_is s t in_s in_t c =
        let r = relation nest s t in
        sided nest is_nest s t in_s in_t (small_base s t c) (is_cheaper (kinds_from kind [] (second_side_first nest r)) (kinds_from kind [] (first_side_first nest r)))

    -- either order of a relation serves
    module _ (P : Relation → List Unknown → Type 0)
        (each : (s t : Site) (in_s : Contains (sites nest) s) (in_t : Contains (sites nest) t) → Contains (relations nest) (relation nest s t) → (us : List Unknown) → IsOrder nest is_nest s t in_s in_t kind us → P (relation nest s t) us) where
      pub cheaper_has : (r : Relation) → Contains (relations nest) r → P r (cheaper_order r)
      cheaper_has =
          each_relation nest (λ r. P r (cheaper_order r))
          (λ s t in_s in_t c. each s t in_s in_t c (cheaper_order (relation nest s t)) (sided_order nest is_nest s t in_s in_t kind (cheaper_order (relation nest s t)) (cheaper_is s t in_s in_t c)))

      pub quicker_has : (r : Relation) → Contains (relations nest) r → P r (quicker kind (cheaper_order r))
      quicker_has =
          each_relation nest (λ r. P r (quicker kind (cheaper_order r)))
          (λ s t in_s in_t c. each s t in_s in_t c (quicker kind (cheaper_order (relation nest s t))) (quicker_order nest is_nest s t in_s in_t kind (cheaper_order (relation nest s t)) (cheaper_is s t in_s in_t c)))

    module _ (law : DerivableIsTrue) (names : AllNameIndexes nest.decls nest.props) (a : Lists) (lengths : IndexLengths nest.decls a) (passes : Passes nest.props a) where
      tries : (s t : Site) (in_s : Contains (sites nest) s) (in_t : Contains (sites nest) t) → AreDerived nest (relation nest s t) f → (e : List Binding) → AllHold a e (relation_base nest s t)
          → (earlier : List VarId) (u : Unknown) → (kind earlier u.var ≡ Looped → Tries nest is_nest s t in_s in_t a e earlier u) → IsTried a e kind earlier u
      tries s t in_s in_t derived e hold earlier u loop =
          kind_tries a e f
          (λ x y c h. law f.atoms (relation_base nest s t) nest.decls nest.props (record { a = x; b = y; c = c }) names (derived.follow x y c h) a e lengths passes hold)
          (λ array v c.
          let index = entries_indexed nest.decls (relation_base nest s t) nest.props names (indexed nest is_nest s t in_s in_t) array v (subst (λ (l : List Atom). Contains l (At array v)) derived.atoms c) in
          lengths array index ∙ ap (λ (ds : List Decl). declared_length ds a.n a.nnz array) (sym derived.decls))
          (λ p h. rising_list a p nest.props passes (subst (λ (ps : List PropDecl). is_rising ps p ≡ true) derived.props h))
          earlier u loop

      abbrev Gives : Relation → List Unknown → Type 0
      Gives r us = AreDerived nest r f → GivesPairs nest a kind r us

      order_has : (s t : Site) (in_s : Contains (sites nest) s) (in_t : Contains (sites nest) t) → Contains (relations nest) (relation nest s t) → (us : List Unknown) → IsOrder nest is_nest s t in_s in_t kind us → Gives (relation nest s t) us
      order_has s t in_s in_t c us order derived =
          order_gives nest is_nest s t in_s in_t kind a (λ e hold earlier u loop. tries s t in_s in_t derived e hold earlier u loop) us order

      pub cheaper_gives : (r : Relation) → Contains (relations nest) r → Gives r (cheaper_order r)
      cheaper_gives = cheaper_has Gives order_has

      pub quicker_gives : (r : Relation) → Contains (relations nest) r → Gives r (quicker kind (cheaper_order r))
      quicker_gives = quicker_has Gives order_has

      pub searches : (r : Relation) → AreDerived nest r f → (us : List Unknown) → All (SearchesAscending a) (plan_in kind nest r us)
      searches r derived us =
          all_operations kind r.base (variable nest.line First) (variable nest.line Second) (SearchesAscending a) us []
          (λ l u. kind_searches f a (λ p h. rising_list a p nest.props passes (subst (λ (ps : List PropDecl). is_rising ps p ≡ true) derived.props h)) l u)
          (λ d. tt) tt

    -- constants
    abbrev AreBounded : Type 0
    AreBounded = (x y : Atom) (c : ℤ) → f.bounds x y ≡ Some c → unsigned_abs c ≤ 2 ^ 31

    abbrev Forms : Relation → List Unknown → Type 0
    Forms r us = AreBounded → f.atoms ≡ atoms_due r.base [] nest.props → IsPlan (plan_in kind nest r us)

    order_forms : (s t : Site) (in_s : Contains (sites nest) s) (in_t : Contains (sites nest) t) → Contains (relations nest) (relation nest s t) → (us : List Unknown) → IsOrder nest is_nest s t in_s in_t kind us → Forms (relation nest s t) us
    order_forms s t in_s in_t c us order bounded same =
        let base = relation_base nest s t in
        let base_small = small_base s t c in
        let closed : IsClosed f.atoms = subst IsClosed (sym same) (due_closed base [] nest.props) in
        let within : IndexesWithin (2 ^ 21 + 1) f.atoms = subst (IndexesWithin (2 ^ 21 + 1)) (sym same) (due_within (2 ^ 21) base nest.props base_small.within) in
        order_plans nest is_nest s t in_s in_t kind base_small
        (λ earlier u loop. kind_good f (atom_small f.atoms closed within) (index_small f.atoms closed within) bounded earlier u loop) us order

    pub cheaper_forms : (r : Relation) → Contains (relations nest) r → Forms r (cheaper_order r)
    cheaper_forms = cheaper_has Forms order_forms

    pub quicker_forms : (r : Relation) → Contains (relations nest) r → Forms r (quicker kind (cheaper_order r))
    quicker_forms = quicker_has Forms order_forms

-- At the least bounds of the closure of the relation's own system.

module _ (law : DerivableIsTrue) (nest : Nest) (r : Relation) (k : Closed) (bounds : Bounds) (own : IsOwn nest r k) (table : IsTable k bounds) (small : AreSmall nest) where
  abbrev f : Facts
  f = facts_of nest k bounds

  pub own_form : IsPlan (plan_of nest f r)
  own_form = cheaper_forms nest own.is_nest small f r own.listed (bounds_small k bounds table) own.atoms

  pub own_quick_form : IsPlan (quick_plan_of nest f r)
  own_quick_form = quicker_forms nest own.is_nest small f r own.listed (bounds_small k bounds table) own.atoms

  module _ (names : AllNameIndexes nest.decls nest.props) (a : Lists) (lengths : IndexLengths nest.decls a) (passes : Passes nest.props a) where
    derived : AreDerived nest r f
    derived = own_derived nest r k own bounds table

    pub own_inspects : Inspects nest r a (plan_of nest f r)
    own_inspects = record {
      ascending = searches nest own.is_nest small f law names a lengths passes r derived (cheaper (kind_of f) (first_side_first nest r) (second_side_first nest r));
      pairs = cheaper_gives nest own.is_nest small f law names a lengths passes r own.listed derived;
    }

    pub own_quick_inspects : Inspects nest r a (quick_plan_of nest f r)
    own_quick_inspects = record {
      ascending = searches nest own.is_nest small f law names a lengths passes r derived (quicker (kind_of f) (cheaper (kind_of f) (first_side_first nest r) (second_side_first nest r)));
      pairs = quicker_gives nest own.is_nest small f law names a lengths passes r own.listed derived;
    }
