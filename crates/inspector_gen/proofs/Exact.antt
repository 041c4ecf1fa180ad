-- What a relation between two sites asks of an order of its unknowns.
use Rattle.std.proofs.Common.{◌≡◌, ◌↔◌, ◌⊎◌, inl, inr, ℕ, ℤ, pos, ◌+ℤ◌, ◌≤ℤ◌, true, false, ◌||◌, List, [], ◌∷◌, ◌++◌, refl, sym, ap, ◌∙◌, subst, arith, rules}
use Rattle.std.specs.Prelude.{◌==◌, slice_index_or}
use Rattle.std.specs.Int.Signed.{◌<ℤ◌}
use Rattle.std.specs.List.{All, Contains, list_all}
use Rattle.std.proofs.lemmas.Int.{ints}
use Rattle.std.proofs.lemmas.Bool.{eqb-true, cases_eq, false≢true}
use Rattle.std.proofs.lemmas.Bool.Decides.{nat_tests}
use Rattle.std.proofs.lemmas.List.Elements.{All-nil, All-cons, All-head, All-tail, All-contains}
use Rattle.std.proofs.lemmas.List.Folds.{list_all-append, list_all-map}
use Rattle.wave_base.specs.declared.types.ArrayId.{ArrayId}
use Rattle.wave_base.specs.declared.types.RowId.{RowId}
use Rattle.loop_core.specs.declared.decl.Decl.{Decl}
use Rattle.loop_core.specs.declared.decl.PropDecl.{PropDecl}
use Rattle.loop_core.specs.declared.decl.PropKind.{PropKind}
use Rattle.loop_core.specs.declared.decl.PropKind.TheVariants.{Range, Rising, Strict, Injective, Sorted, Below, Upto, Diagonal, Before}
use Rattle.loop_core.specs.declared.nest.Nest.{Nest}
use Rattle.loop_core.specs.declared.nest.Side.{Side}
use Rattle.loop_core.specs.declared.nest.Side.TheVariants.{Own, First, Second}
use Rattle.loop_core.specs.declared.nest.VarId.{VarId}
use Rattle.loop_core.specs.declared.nest.Term.{Term}
use Rattle.loop_core.specs.declared.nest.Atom.{Atom}
use Rattle.loop_core.specs.declared.nest.Atom as ATOM
use Rattle.loop_core.specs.declared.nest.Atom.TheVariants.{Zero, N, Nnz, Var}
use Rattle.loop_core.specs.Lists.{Lists, list_of}
use Rattle.loop_core.specs.Binding.{Binding, value_in, same_side}
use Rattle.loop_core.specs.Terms.{term_value}
use Rattle.loop_core.specs.Instances.{natural}
use Rattle.loop_core.specs.Shape.{term_vars, term_arrays}
use Rattle.loop_core.specs.Sizes.{is_index}
use Rattle.loop_core.specs.IsNest.{IsNest}
use Rattle.uf_constraints.specs.declared.system.Diff.{Diff}
use Rattle.uf_constraints.specs.declared.reach.Around.{Around}
use Rattle.uf_constraints.specs.declared.reach.Around.TheVariants.{Loop as Repeated, Guard}
use Rattle.uf_constraints.specs.declared.reach.Site.{Site}
use Rattle.uf_constraints.specs.Bases.{at_most, less, on, variable as term_at, said_by, said_by_all, relation_base}
use Rattle.uf_constraints.specs.Relations.{sites, relation}
use Rattle.uf_constraints.specs.Truth.{Holds, AllHold}
use Rattle.uf_constraints.specs.Universe.{plain, next}
use Rattle.index_props.specs.Meanings.{Means, Passes, StrictList}
use Rattle.dep_extract.proofs.Members.{and_true}
use Rattle.dep_extract.proofs.Holding.{all_parts, up_to_means, under_means, zero_is, rows_are, variable_is}
use Rattle.inspector_run.specs.declared.plan.InspOp.{InspOp}
use Rattle.inspector_run.specs.declared.plan.InspOp.TheVariants.{Loop, Emit}
use Rattle.inspector_run.specs.Pairs.{met, as_rows, emitted}
use Rattle.inspector_run.specs.Ready.{IsAscending}
use Rattle.inspector_run.specs.IsPlan.{is_among}
use Rattle.inspector_gen.specs.declared.kind.Kind.{Kind}
use Rattle.inspector_gen.specs.declared.unknown.Unknown.{Unknown}
use Rattle.inspector_gen.specs.declared.unknown.Span.TheVariants.{Rows, Between}
use Rattle.inspector_gen.specs.Kinds.{is_fixed, makes_rising, is_rising}
use Rattle.inspector_gen.specs.Variables.{variable, first_side_first, second_side_first}
use Rattle.inspector_gen.specs.Plans.{loop_over_rows, loop_of, steps}
use Rattle.inspector_gen.specs.Derived.{rows}
use Rattle.inspector_gen.proofs.Lists.{known_or, in_map, from_map, natural_of, between_has}
use Rattle.inspector_gen.proofs.Locality.{term_vars_are}
use Rattle.inspector_gen.proofs.Along.{Along, IsFresh, CanTest, HasBoth, TriesIt, IsTried, may_test_from, pairs_come, pairs_met}
use Rattle.inspector_gen.proofs.Chosen.{split, var_value}
use Rattle.inspector_gen.proofs.Scoped.{Fits, AreScoped, lines_in, lines_stay, is_line, line_push, or_left, or_last, or_cases, all_by}
use Rattle.inspector_gen.proofs.Sided.{arrays_of, term_arrays_are, vars_on, arrays_on, there}
use Rattle.inspector_gen.proofs.Indexed.{DiffIndexed}
use Rattle.inspector_gen.proofs.Based.{RoundIs, base_is, low_is, apart_is, high_is}
use Rattle.inspector_gen.proofs.Walks.{AreOn, row_of, side_of, order_along}
use Rattle.inspector_gen.proofs.Sites.{site_fits, round_is}

-- Any kinds and any order.

module _ (a : Lists) (kind : List VarId → VarId → Kind) (base : List Diff) (v w : VarId)
    (positive : (e : List Binding) → AllHold a e base → (pos 0 ≤ℤ value_in e v) × (pos 0 ≤ℤ value_in e w)) where
  abbrev ComesFrom : ℕ → ℕ → Type 0
  ComesFrom i j = (e : List Binding) × (value_in e v ≡ pos i) × (value_in e w ≡ pos j) × AllHold a e base

  abbrev ops_of : List Unknown → List InspOp
  ops_of us = steps kind base [] us ++ Emit v w ∷ []

  -- the pairs emitted are those of the assignments that make the base true, where the unknowns stand once, each
  -- constraint can be tested, and the values of such an assignment are tried
  pub emitted_are : (us : List Unknown) → Along IsFresh (CanTest base) [] us → ((e : List Binding) → AllHold a e base → Along (IsTried a e kind) (HasBoth v w) [] us)
      → (i j : ℕ) → Contains (emitted a (ops_of us)) (rows i j) ↔ ComesFrom i j
  emitted_are us fresh tried i j = (forth, back)
    where
      value_is : (z q : ℤ) (k : ℕ) → pos 0 ≤ℤ z → q ≡ z → natural q ≡ k → z ≡ pos k
      value_is z q k low same is = sym (natural_of z low) ∙ ap pos (ap natural (sym same) ∙ is)

      forth : Contains (emitted a (ops_of us)) (rows i j) → ComesFrom i j
      forth h =
          let m = from_map as_rows (met a (ops_of us) []) (rows i j) h in
          let c = pairs_come a kind base v w us m.0 fresh m.1 in
          let low = positive c.0 c.2 in (
            c.0,
            value_is (value_in c.0 v) m.0.0 i low.0 (ap (λ (z : ℤ × ℤ). z.0) c.1) (ap (λ (z : RowId × RowId). z.0.0) m.2),
            value_is (value_in c.0 w) m.0.1 j low.1 (ap (λ (z : ℤ × ℤ). z.1) c.1) (ap (λ (z : RowId × RowId). z.1.0) m.2),
            c.2,
          )

      back : ComesFrom i j → Contains (emitted a (ops_of us)) (rows i j)
      back p =
          let m = pairs_met a kind base v w p.0 p.3 us (tried p.0 p.3) in
          subst (Contains (emitted a (ops_of us))) (λ k. as_rows (p.1 k, p.2 k)) (in_map as_rows (met a (ops_of us) []) (value_in p.0 v, value_in p.0 w) m)

-- Arrays that rise.

module _ (a : Lists) (p : ArrayId) where
  from_strict : (list : List ℤ) → StrictList list → IsAscending list
  from_strict list strict s t le lt = by (cases_eq s t)
    where
      same : (k : ℕ) → slice_index_or list k (pos 0) ≤ℤ slice_index_or list k (pos 0)
      same k = omega (arith, ints)

      by : (s ≡ t) ⊎ (s ≡ t → ⊥) → slice_index_or list s (pos 0) ≤ℤ slice_index_or list t (pos 0)
      by (inl e) = subst (λ k. slice_index_or list s (pos 0) ≤ℤ slice_index_or list k (pos 0)) e (same s)
      by (inr apart) = let l = strict s t (omega (arith, le)) lt in omega (arith, ints, l)

  one_rising : (kind : PropKind) → Means a kind → makes_rising p kind ≡ true → IsAscending (list_of a.lists p)
  one_rising (Rising q) means h = subst (λ (n : ℕ). IsAscending (slice_index_or a.lists n [])) (eqb-true q.0 p.0 h) means
  one_rising (Strict q) means h = subst (λ (n : ℕ). IsAscending (slice_index_or a.lists n [])) (eqb-true q.0 p.0 h) (from_strict (list_of a.lists q) means)
  one_rising (Range f lo hi) means h = absurd (false≢true h)
  one_rising (Injective f) means h = absurd (false≢true h)
  one_rising (Sorted f q) means h = absurd (false≢true h)
  one_rising (Below f q) means h = absurd (false≢true h)
  one_rising (Upto f q) means h = absurd (false≢true h)
  one_rising (Diagonal d f q) means h = absurd (false≢true h)
  one_rising (Before f g) means h = absurd (false≢true h)

  pub rising_list : (props : List PropDecl) → Passes props a → is_rising props p ≡ true → IsAscending (list_of a.lists p)
  rising_list [] passes h = absurd (false≢true h)
  rising_list (d ∷ props) passes h = by (or_cases (makes_rising p d.kind) (is_rising props p) h) (rising_list props (All-tail (λ (q : PropDecl). Means a q.kind) d props passes))
    where
      by : (makes_rising p d.kind ≡ true) ⊎ (is_rising props p ≡ true) → (is_rising props p ≡ true → IsAscending (list_of a.lists p)) → IsAscending (list_of a.lists p)
      by (inl e) rest = one_rising d.kind (All-head (λ (q : PropDecl). Means a q.kind) d props passes) e
      by (inr e) rest = rest e

-- Terms whose variables are fixed.

abbrev pub TermFixed : List VarId → Term → Type 0
TermFixed earlier t = list_all (is_among earlier) (term_vars t) ≡ true

no_vars : (earlier : List VarId) (t : Term) → term_vars t ≡ [] → TermFixed earlier t
no_vars earlier t none = ap (list_all (is_among earlier)) none

one_var : (earlier : List VarId) (t : Term) (v : VarId) → term_vars t ≡ v ∷ [] → is_among earlier v ≡ true → TermFixed earlier t
one_var earlier t v one h = ap (list_all (is_among earlier)) one ∙ and_true (is_among earlier v) true h refl

pub zero_fixed : (earlier : List VarId) → TermFixed earlier (plain Zero)
zero_fixed earlier = no_vars earlier (plain Zero) (search (rules, ATOM.TheFolds.the_lemmas))

pub rows_fixed : (earlier : List VarId) → TermFixed earlier (plain N)
rows_fixed earlier = no_vars earlier (plain N) (search (rules, ATOM.TheFolds.the_lemmas))

stored_fixed : (earlier : List VarId) → TermFixed earlier (plain Nnz)
stored_fixed earlier = no_vars earlier (plain Nnz) (search (rules, ATOM.TheFolds.the_lemmas))

pub var_fixed : (earlier : List VarId) (v : VarId) → is_among earlier v ≡ true → TermFixed earlier (plain (Var v))
var_fixed earlier v h = one_var earlier (plain (Var v)) v (search (rules, ATOM.TheFolds.the_lemmas)) h

pub next_fixed : (earlier : List VarId) (v : VarId) → is_among earlier v ≡ true → TermFixed earlier (next (plain (Var v)))
next_fixed earlier v h = one_var earlier (next (plain (Var v))) v (search (rules, ATOM.TheFolds.the_lemmas)) h

pub on_fixed : (decls : List Decl) (side : Side) (earlier : List VarId) (ls : List ℕ) (t : Term) → ((k : ℕ) → is_line ls k ≡ true → is_among earlier (variable k side) ≡ true) → Fits decls ls t → TermFixed earlier (on side t)
on_fixed decls side earlier ls t cover fits =
    ap (list_all (is_among earlier)) (vars_on side t)
    ∙ list_all-map (is_among earlier) (there side) (term_vars t)
    ∙ all_by (λ v. is_line ls v.line) (λ v. is_among earlier (there side v)) (term_vars t) (λ v h. cover v.line h) fits.0

-- what holds of each term that stands round a place
round_by : (decls : List Decl) (P : Term → Type 0) (side : Side) (xs : List Around) (ls : List ℕ) → AreScoped decls ls xs
    → ((ks : List ℕ) (u : Term) → Fits decls ks u → ((k : ℕ) → is_line ks k ≡ true → is_line (lines_in ls xs) k ≡ true) → P (on side u))
    → ((k : ℕ) → is_line (lines_in ls xs) k ≡ true → P (term_at side k))
    → All (RoundIs P side) xs
round_by decls P side [] ls scoped each var = All-nil (RoundIs P side)
round_by decls P side (Repeated line lo hi ∷ xs) ls scoped each var =
    let now = ls ++ line ∷ [] in
    let cover : (k : ℕ) → is_line ls k ≡ true → is_line (lines_in now xs) k ≡ true =
    λ k h. lines_stay now xs k (line_push ls line k ∙ or_left (is_line ls k) ((line == k) || false) h) in
    let own : (line == line) ≡ true = grind (arith, nat_tests) in
    let its : is_line (lines_in now xs) line ≡ true = lines_stay now xs line (line_push ls line line ∙ or_last (is_line ls line) (line == line) own) in
    All-cons (RoundIs P side) (Repeated line lo hi) xs ((each ls lo scoped.0.0 cover, each ls hi scoped.0.1 cover), var line its) (round_by decls P side xs now scoped.2 each var)
round_by decls P side (Guard rel s t ∷ xs) ls scoped each var =
    let cover : (k : ℕ) → is_line ls k ≡ true → is_line (lines_in ls xs) k ≡ true = λ k h. lines_stay ls xs k h in
    All-cons (RoundIs P side) (Guard rel s t) xs (each ls s scoped.0.0 cover, each ls t scoped.0.1 cover) (round_by decls P side xs ls scoped.1 each var)

-- All that a relation between two sites asks.

module _ (nest : Nest) (is_nest : IsNest nest) (s t : Site) (in_s : Contains (sites nest) s) (in_t : Contains (sites nest) t) where
  abbrev outer : ℕ
  outer = nest.line

  abbrev base : List Diff
  base = relation_base nest s t

  abbrev i_var : VarId
  i_var = variable outer First

  abbrev j_var : VarId
  j_var = variable outer Second

  abbrev pub lines_s : List ℕ
  lines_s = lines_in (outer ∷ []) s.around

  abbrev pub lines_t : List ℕ
  lines_t = lines_in (outer ∷ []) t.around

  pub fits_s : AreScoped nest.decls (outer ∷ []) s.around × Fits nest.decls lines_s s.at
  fits_s = site_fits nest is_nest s in_s

  pub fits_t : AreScoped nest.decls (outer ∷ []) t.around × Fits nest.decls lines_t t.at
  fits_t = site_fits nest is_nest t in_t

  outer_itself : is_line (outer ∷ []) outer ≡ true
  outer_itself = let own : (outer == outer) ≡ true = grind (arith, nat_tests) in or_left (outer == outer) false own

  outer_in : (xs : List Around) → is_line (lines_in (outer ∷ []) xs) outer ≡ true
  outer_in xs = lines_stay (outer ∷ []) xs outer outer_itself

  -- the constraints name index arrays alone
  pub indexed : All (DiffIndexed nest.decls) base
  indexed =
      let P : Term → Type 0 = λ u. list_all (is_index nest.decls) (term_arrays u) ≡ true in
      let none : (u : Term) → term_arrays u ≡ [] → P u = λ u e. ap (list_all (is_index nest.decls)) e in
      let of_atom : (u : Term) → P u → list_all (is_index nest.decls) (arrays_of u.atom) ≡ true = λ u h. ap (list_all (is_index nest.decls)) (sym (term_arrays_are u)) ∙ h in
      let moved : (side : Side) (ks : List ℕ) (u : Term) → Fits nest.decls ks u → P (on side u) = λ side ks u fits. ap (list_all (is_index nest.decls)) (arrays_on side u) ∙ fits.1 in
      let var : (side : Side) (k : ℕ) → P (term_at side k) = λ side k. none (term_at side k) (search (rules, ATOM.TheFolds.the_lemmas)) in
      base_is P (DiffIndexed nest.decls) (λ x y h g. (of_atom x h, of_atom y g)) (λ x y h g. (of_atom x h, of_atom y g)) nest s t
      (none (plain Zero) (search (rules, ATOM.TheFolds.the_lemmas))) (none (plain N) (search (rules, ATOM.TheFolds.the_lemmas))) (none (plain Nnz) (search (rules, ATOM.TheFolds.the_lemmas)))
      (var First outer) (var Second outer)
      (round_by nest.decls P First s.around (outer ∷ []) fits_s.0 (λ ks u fits cover. moved First ks u fits) (λ k h. var First k))
      (round_by nest.decls P Second t.around (outer ∷ []) fits_t.0 (λ ks u fits cover. moved Second ks u fits) (λ k h. var Second k))
      (moved First lines_s s.at fits_s.1) (moved Second lines_t t.at fits_t.1)

  -- each of them can be tested where all unknowns are fixed
  can_test : (after : List VarId) → AreOn First after lines_s → AreOn Second after lines_t → CanTest base after
  can_test after on_s on_t d c =
      let P : Term → Type 0 = TermFixed after in
      let Q : Diff → Type 0 = λ x. (is_fixed after x.a ≡ true) × (is_fixed after x.b ≡ true) in
      let of_atom : (u : Term) → P u → is_fixed after u.atom ≡ true = λ u h. ap (list_all (is_among after)) (sym (term_vars_are u)) ∙ h in
      let first : (k : ℕ) → is_line lines_s k ≡ true → is_among after (variable k First) ≡ true = λ k h. on_s k ∙ h in
      let second : (k : ℕ) → is_line lines_t k ≡ true → is_among after (variable k Second) ≡ true = λ k h. on_t k ∙ h in
      let all : All Q base =
      base_is P Q (λ x y h g. (of_atom x h, of_atom y g)) (λ x y h g. (of_atom x h, of_atom y g)) nest s t
      (zero_fixed after) (rows_fixed after) (stored_fixed after)
      (var_fixed after i_var (first outer (outer_in s.around))) (var_fixed after j_var (second outer (outer_in t.around)))
      (round_by nest.decls P First s.around (outer ∷ []) fits_s.0 (λ ks u fits cover. on_fixed nest.decls First after ks u (λ k h. first k (cover k h)) fits) (λ k h. var_fixed after (variable k First) (first k h)))
      (round_by nest.decls P Second t.around (outer ∷ []) fits_t.0 (λ ks u fits cover. on_fixed nest.decls Second after ks u (λ k h. second k (cover k h)) fits) (λ k h. var_fixed after (variable k Second) (second k h)))
      (on_fixed nest.decls First after lines_s s.at first fits_s.1) (on_fixed nest.decls Second after lines_t t.at second fits_t.1) in
      let two = All-contains Q base d all c in
      may_test_from after i_var d (first outer (outer_in s.around)) two.0 two.1

  -- The two orders.

  abbrev pub first_order : List Unknown
  first_order = side_of outer First s.around ++ side_of outer Second t.around

  abbrev pub second_order : List Unknown
  second_order = side_of outer Second t.around ++ side_of outer First s.around

  pub first_is_that : first_side_first nest (relation nest s t) ≡ first_order
  first_is_that = λ i. side_of outer First (round_is nest is_nest s in_s i) ++ side_of outer Second (round_is nest is_nest t in_t i)

  pub second_is_that : second_side_first nest (relation nest s t) ≡ second_order
  second_is_that = λ i. side_of outer Second (round_is nest is_nest t in_t i) ++ side_of outer First (round_is nest is_nest s in_s i)

  -- each unknown stands once

  abbrev Whatever : Side → Around → Type 0
  Whatever side x = Unit {0}

  anything : (side : Side) (xs : List Around) → All (Whatever side) xs
  anything side [] = All-nil (Whatever side)
  anything side (x ∷ xs) = All-cons (Whatever side) x xs tt (anything side xs)

  fresh_row : (side : Side) (earlier : List VarId) → same_side side Own ≡ false → AreOn side earlier [] → IsFresh earlier (row_of outer side)
  fresh_row side earlier moves own = own outer

  fresh_step : (side : Side) (earlier : List VarId) (ls : List ℕ) (line : ℕ) (lo hi : Term) → AreOn side earlier ls → Fits nest.decls ls lo → Fits nest.decls ls hi
      → is_line ls line ≡ false → Whatever side (Repeated line lo hi) → IsFresh earlier (record { var = variable line side; span = Between (on side lo) (on side hi) })
  fresh_step side earlier ls line lo hi own low high new any = own line ∙ new

  pub fresh_first : Along IsFresh (CanTest base) [] first_order
  fresh_first =
      order_along IsFresh (CanTest base) Whatever nest.decls outer fresh_row fresh_step First Second refl refl refl refl s.around t.around fits_s.0 fits_t.0 (anything First s.around) (anything Second t.around)
      (λ after on_s on_t. can_test after on_s on_t)

  pub fresh_second : Along IsFresh (CanTest base) [] second_order
  fresh_second =
      order_along IsFresh (CanTest base) Whatever nest.decls outer fresh_row fresh_step Second First refl refl refl refl t.around s.around fits_t.0 fits_s.0 (anything Second t.around) (anything First s.around)
      (λ after on_t on_s. can_test after on_s on_t)

  pub has_both : (after : List VarId) → AreOn First after lines_s → AreOn Second after lines_t → HasBoth i_var j_var after
  has_both after on_s on_t = (on_s outer ∙ outer_in s.around, on_t outer ∙ outer_in t.around)

  -- Values that make the base true.

  module _ (a : Lists) (e : List Binding) (hold : AllHold a e base) where
    low : pos 0 ≤ℤ value_in e i_var
    low =
        let h = up_to_means a e (plain Zero) (term_at First outer) (low_is (Holds a e) nest s t hold) in
        let z = zero_is a e in
        let v : term_value a e (term_at First outer) ≡ value_in e i_var = variable_is a e First outer in
        omega (arith, ints, h, z, v)

    apart : value_in e i_var <ℤ value_in e j_var
    apart =
        let h = under_means a e (term_at First outer) (term_at Second outer) (apart_is (Holds a e) nest s t hold) in
        let v : term_value a e (term_at First outer) ≡ value_in e i_var = variable_is a e First outer in
        let w : term_value a e (term_at Second outer) ≡ value_in e j_var = variable_is a e Second outer in
        omega (arith, ints, h, v, w)

    high : value_in e j_var <ℤ pos a.n
    high =
        let h = under_means a e (term_at Second outer) (plain N) (high_is (Holds a e) nest s t hold) in
        let n = rows_are a e in
        let w : term_value a e (term_at Second outer) ≡ value_in e j_var = variable_is a e Second outer in
        omega (arith, ints, h, n, w)

    pub both_positive : (pos 0 ≤ℤ value_in e i_var) × (pos 0 ≤ℤ value_in e j_var)
    both_positive = (low, (let l = low in let m = apart in omega (arith, ints, l, m)))

    -- a loop over the numbers between two terms
    between_tries : (earlier : List VarId) (v : VarId) (lo hi : Term) → TermFixed earlier lo → TermFixed earlier hi → term_value a e lo ≤ℤ value_in e v → value_in e v <ℤ term_value a e hi → TriesIt a e earlier v (Loop v lo hi)
    between_tries earlier v lo hi f g least most = (
      list_all-append (is_among earlier) (term_vars lo) (term_vars hi) ∙ and_true (list_all (is_among earlier) (term_vars lo)) (list_all (is_among earlier) (term_vars hi)) f g,
      between_has (term_value a e lo) (term_value a e hi) (value_in e v) least most,
    )

    var_term : (v : VarId) → term_value a e (plain (Var v)) ≡ value_in e v
    var_term v = let p = split a e (plain (Var v)) in let q = var_value a e v in omega (arith, ints, p, q)

    next_term : (v : VarId) → term_value a e (next (plain (Var v))) ≡ (value_in e v +ℤ pos 1)
    next_term v = let p = split a e (next (plain (Var v))) in let q = var_value a e v in omega (arith, ints, p, q)

    pub row_tries : (side : Side) (earlier : List VarId) → same_side side Own ≡ false → TriesIt a e earlier (variable outer side) (loop_of earlier (variable outer side) Rows)
    row_tries First earlier moves =
        let z = zero_is a e in
        let n = rows_are a e in
        let l = low in
        let m = apart in
        let h = high in
        let w = var_term j_var in
        known_or (is_among earlier j_var) (λ b. TriesIt a e earlier i_var (loop_over_rows i_var j_var true b))
        (λ c. between_tries earlier i_var (plain Zero) (plain (Var j_var)) (zero_fixed earlier) (var_fixed earlier j_var c) (omega (arith, ints, z, l)) (omega (arith, ints, m, w)))
        (λ c. between_tries earlier i_var (plain Zero) (plain N) (zero_fixed earlier) (rows_fixed earlier) (omega (arith, ints, z, l)) (omega (arith, ints, m, h, n)))
    row_tries Second earlier moves =
        let z = zero_is a e in
        let n = rows_are a e in
        let l = low in
        let m = apart in
        let h = high in
        let w = next_term i_var in
        known_or (is_among earlier i_var) (λ b. TriesIt a e earlier j_var (loop_over_rows j_var i_var false b))
        (λ c. between_tries earlier j_var (next (plain (Var i_var))) (plain N) (next_fixed earlier i_var c) (rows_fixed earlier) (omega (arith, ints, m, w)) (omega (arith, ints, h, n)))
        (λ c. between_tries earlier j_var (plain Zero) (plain N) (zero_fixed earlier) (rows_fixed earlier) (omega (arith, ints, z, l, m)) (omega (arith, ints, h, n)))
    row_tries Own earlier moves = absurd (false≢true (sym moves))

    -- what is said of a loop or a guard is true
    abbrev pub IsSaid : Side → Around → Type 0
    IsSaid side x = AllHold a e (said_by side x)

    pub all_said : (side : Side) (xs : List Around) → AllHold a e (said_by_all side xs) → All (IsSaid side) xs
    all_said side [] h = All-nil (IsSaid side)
    all_said side (x ∷ xs) h =
        let p = all_parts (Holds a e) (said_by side x) (said_by_all side xs) h in
        All-cons (IsSaid side) x xs p.0 (all_said side xs p.1)

    pub loop_tries : (side : Side) (earlier : List VarId) (ls : List ℕ) (line : ℕ) (lo hi : Term) → AreOn side earlier ls → Fits nest.decls ls lo → Fits nest.decls ls hi
        → IsSaid side (Repeated line lo hi) → TriesIt a e earlier (variable line side) (Loop (variable line side) (on side lo) (on side hi))
    loop_tries side earlier ls line lo hi own fits_lo fits_hi said =
        let x = term_at side line in
        let p = up_to_means a e (on side lo) x (All-head (Holds a e) (at_most (on side lo) x) (less x (on side hi) ∷ []) said) in
        let q = under_means a e x (on side hi) (All-head (Holds a e) (less x (on side hi)) [] (All-tail (Holds a e) (at_most (on side lo) x) (less x (on side hi) ∷ []) said)) in
        let v : term_value a e x ≡ value_in e (variable line side) = variable_is a e side line in
        between_tries earlier (variable line side) (on side lo) (on side hi)
        (on_fixed nest.decls side earlier ls lo (λ k h. own k ∙ h) fits_lo) (on_fixed nest.decls side earlier ls hi (λ k h. own k ∙ h) fits_hi)
        (omega (arith, ints, p, v)) (omega (arith, ints, q, v))
