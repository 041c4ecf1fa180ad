-- The orders of a relation's unknowns: side by side, and one by one.
use Rattle.std.proofs.Common.{◌≡◌, ℕ, ◌≤◌, ◌^◌, ℤ, pos, IsTrue, Bool, true, false, unsigned_abs, List, [], ◌∷◌, ◌++◌, length, length-append, refl, sym, ◌∙◌, subst, arith, rules}
use Rattle.std.specs.Prelude.{◌-ℤ◌, if◌then◌else◌, nat_lt}
use Rattle.std.specs.List.{All, Contains, list_all}
use Rattle.std.proofs.lemmas.Int.{ints}
use Rattle.std.proofs.lemmas.Bool.{false≢true}
use Rattle.std.proofs.lemmas.List.Elements.{All-nil, All-cons, All-head, All-tail}
use Rattle.std.proofs.lemmas.List.Folds.{list_all-append}
use Rattle.loop_core.specs.declared.nest.Nest.{Nest}
use Rattle.loop_core.specs.declared.nest.Side.{Side}
use Rattle.loop_core.specs.declared.nest.Side.TheVariants.{Own, First, Second}
use Rattle.loop_core.specs.declared.nest.VarId.{VarId}
use Rattle.loop_core.specs.declared.nest.Term.{Term}
use Rattle.loop_core.specs.declared.nest.Atom.{Atom}
use Rattle.loop_core.specs.declared.nest.Atom as ATOM
use Rattle.loop_core.specs.declared.nest.Atom.TheVariants.{Zero, N, Var}
use Rattle.loop_core.specs.Lists.{Lists}
use Rattle.loop_core.specs.Binding.{Binding, same_side}
use Rattle.loop_core.specs.Shape.{term_vars}
use Rattle.loop_core.specs.IsNest.{IsNest}
use Rattle.uf_constraints.specs.declared.system.Diff.{Diff}
use Rattle.uf_constraints.specs.declared.reach.Around.{Around}
use Rattle.uf_constraints.specs.declared.reach.Around.TheVariants.{Loop as Repeated}
use Rattle.uf_constraints.specs.declared.reach.Site.{Site}
use Rattle.uf_constraints.specs.Bases.{at_most, less, on, variable as term_at, said_by, said_by_all, relation_base}
use Rattle.uf_constraints.specs.Constants.{term_within}
use Rattle.uf_constraints.specs.Relations.{sites, relation}
use Rattle.uf_constraints.specs.Truth.{Holds, AllHold}
use Rattle.uf_constraints.specs.Universe.{plain, next, atoms_due}
use Rattle.uf_constraints.proofs.Listed.{due_closed, due_over}
use Rattle.bracket_claims.specs.Small.{IsSmallBase}
use Rattle.dep_extract.proofs.Members.{and_true}
use Rattle.dep_extract.proofs.Holding.{all_parts}
use Rattle.inspector_run.specs.declared.plan.InspOp.{InspOp}
use Rattle.inspector_run.specs.declared.plan.InspOp.TheVariants.{Loop}
use Rattle.inspector_run.specs.IsPlan.{uses, is_among}
use Rattle.inspector_gen.specs.declared.kind.Kind.{Kind}
use Rattle.inspector_gen.specs.declared.kind.Kind.TheVariants.{Looped}
use Rattle.inspector_gen.specs.declared.unknown.Unknown.{Unknown}
use Rattle.inspector_gen.specs.declared.unknown.Span.TheVariants.{Rows, Between}
use Rattle.inspector_gen.specs.Variables.{variable, first_side_first, second_side_first}
use Rattle.inspector_gen.specs.Plans.{loop_over_rows, loop_of}
use Rattle.inspector_gen.specs.Quick.{in_turn, count_loops, quicker}
use Rattle.inspector_gen.proofs.Lists.{known_or}
use Rattle.inspector_gen.proofs.Along.{Along, along_weaker, IsFresh, CanTest, HasBoth, TriesIt}
use Rattle.inspector_gen.proofs.Scoped.{Fits, is_line, all_by}
use Rattle.inspector_gen.proofs.Based.{first_is, second_is}
use Rattle.inspector_gen.proofs.Walks.{AreOn, row_of, side_of, order_along}
use Rattle.inspector_gen.proofs.Constants.{due_within, atom_small, term_small}
use Rattle.inspector_gen.proofs.Deep.{unknowns_are, few_loops}
use Rattle.inspector_gen.proofs.Formed.{IsGoodAt}
use Rattle.inspector_gen.proofs.Orderings.{AreAmong, can_test_more, along_without, fresh_without, turned_along, turned_length}
use Rattle.inspector_gen.proofs.Exact.{TermFixed, zero_fixed, rows_fixed, var_fixed, next_fixed, on_fixed, fits_s, fits_t, lines_s, lines_t, first_order, second_order, first_is_that, second_is_that, fresh_first, fresh_second, row_tries, loop_tries, has_both}

-- Loops with small constants.

loop_good : (earlier : List VarId) (v : VarId) (lo hi : Term) → TermFixed earlier lo → TermFixed earlier hi → IsTrue (term_within (2 ^ 31) lo) → IsTrue (term_within (2 ^ 31) hi) → IsGoodAt earlier (Loop v lo hi)
loop_good earlier v lo hi f g low high = (
  list_all-append (is_among earlier) (term_vars lo) (term_vars hi) ∙ and_true (list_all (is_among earlier) (term_vars lo)) (list_all (is_among earlier) (term_vars hi)) f g,
  (low, high),
)

zero_within : IsTrue (term_within (2 ^ 31) (plain Zero))
zero_within = search (rules, ATOM.TheFolds.the_lemmas)

rows_within : IsTrue (term_within (2 ^ 31) (plain N))
rows_within = search (rules, ATOM.TheFolds.the_lemmas)

var_within : (v : VarId) → IsTrue (term_within (2 ^ 31) (plain (Var v)))
var_within v = search (rules, ATOM.TheFolds.the_lemmas)

next_within : (v : VarId) → IsTrue (term_within (2 ^ 31) (next (plain (Var v))))
next_within v = search (rules, ATOM.TheFolds.the_lemmas)

row_good : (outer : ℕ) (side : Side) (earlier : List VarId) → same_side side Own ≡ false → IsGoodAt earlier (loop_of earlier (variable outer side) Rows)
row_good outer First earlier moves =
    let i = variable outer First in
    let j = variable outer Second in
    known_or (is_among earlier j) (λ b. IsGoodAt earlier (loop_over_rows i j true b))
    (λ c. loop_good earlier i (plain Zero) (plain (Var j)) (zero_fixed earlier) (var_fixed earlier j c) zero_within (var_within j))
    (λ c. loop_good earlier i (plain Zero) (plain N) (zero_fixed earlier) (rows_fixed earlier) zero_within rows_within)
row_good outer Second earlier moves =
    let i = variable outer First in
    let j = variable outer Second in
    known_or (is_among earlier i) (λ b. IsGoodAt earlier (loop_over_rows j i false b))
    (λ c. loop_good earlier j (next (plain (Var i))) (plain N) (next_fixed earlier i c) (rows_fixed earlier) (next_within i) rows_within)
    (λ c. loop_good earlier j (plain Zero) (plain N) (zero_fixed earlier) (rows_fixed earlier) zero_within rows_within)
row_good outer Own earlier moves = absurd (false≢true (sym moves))

from_low : (z : ℤ) → unsigned_abs (pos 0 -ℤ z) ≤ 2 ^ 23 → unsigned_abs z ≤ 2 ^ 31
from_low z h = omega (arith, ints, h)

from_high : (z : ℤ) → unsigned_abs (z -ℤ pos 0 -ℤ pos 1) ≤ 2 ^ 23 → unsigned_abs z ≤ 2 ^ 31
from_high z h = omega (arith, ints, h)

each_said : (Q : Diff → Type 0) (side : Side) (xs : List Around) → All Q (said_by_all side xs) → All (λ x. All Q (said_by side x)) xs
each_said Q side [] h = All-nil (λ x. All Q (said_by side x))
each_said Q side (x ∷ xs) h =
    let p = all_parts Q (said_by side x) (said_by_all side xs) h in
    All-cons (λ y. All Q (said_by side y)) x xs p.0 (each_said Q side xs p.1)

module _ (nest : Nest) (is_nest : IsNest nest) (s t : Site) (in_s : Contains (sites nest) s) (in_t : Contains (sites nest) t) where
  abbrev outer : ℕ
  outer = nest.line

  abbrev base : List Diff
  base = relation_base nest s t

  abbrev i_var : VarId
  i_var = variable outer First

  abbrev j_var : VarId
  j_var = variable outer Second

  -- Along both orders of the sides.

  module _ (B : List VarId → Unknown → Type 0) (E : List VarId → Type 0) (H : Side → Around → Type 0)
      (row : (side : Side) (earlier : List VarId) → same_side side Own ≡ false → AreOn side earlier [] → B earlier (row_of outer side))
      (step : (side : Side) (earlier : List VarId) (ls : List ℕ) (line : ℕ) (lo hi : Term) → AreOn side earlier ls → Fits nest.decls ls lo → Fits nest.decls ls hi
      → is_line ls line ≡ false → H side (Repeated line lo hi) → B earlier (record { var = variable line side; span = Between (on side lo) (on side hi) }))
      (said_s : All (H First) s.around) (said_t : All (H Second) t.around)
      (end : (after : List VarId) → AreOn First after (lines_s nest is_nest s t in_s in_t) → AreOn Second after (lines_t nest is_nest s t in_s in_t) → E after) where
    along_first : Along B E [] (first_order nest is_nest s t in_s in_t)
    along_first =
        order_along B E H nest.decls outer row step First Second refl refl refl refl s.around t.around (fits_s nest is_nest s t in_s in_t).0 (fits_t nest is_nest s t in_s in_t).0 said_s said_t end

    along_second : Along B E [] (second_order nest is_nest s t in_s in_t)
    along_second =
        order_along B E H nest.decls outer row step Second First refl refl refl refl t.around s.around (fits_t nest is_nest s t in_s in_t).0 (fits_s nest is_nest s t in_s in_t).0 said_t said_s
        (λ after on_t on_s. end after on_s on_t)

  -- Looped, the value of an unknown is tried there and wherever more are fixed.

  abbrev pub Tries : Lists → List Binding → List VarId → Unknown → Type 0
  Tries a e earlier u = TriesIt a e earlier u.var (loop_of earlier u.var u.span)

  abbrev pub TriesFrom : Lists → List Binding → List VarId → Unknown → Type 0
  TriesFrom a e earlier u = (later : List VarId) → AreAmong earlier later → Tries a e later u

  module _ (a : Lists) (e : List Binding) (hold : AllHold a e base) where
    abbrev IsSaid : Side → Around → Type 0
    IsSaid side x = AllHold a e (said_by side x)

    row_from : (side : Side) (earlier : List VarId) → same_side side Own ≡ false → AreOn side earlier [] → TriesFrom a e earlier (row_of outer side)
    row_from side earlier moves own later among = row_tries nest is_nest s t in_s in_t a e hold side later moves

    step_from : (side : Side) (earlier : List VarId) (ls : List ℕ) (line : ℕ) (lo hi : Term) → AreOn side earlier ls → Fits nest.decls ls lo → Fits nest.decls ls hi
        → is_line ls line ≡ false → IsSaid side (Repeated line lo hi) → TriesFrom a e earlier (record { var = variable line side; span = Between (on side lo) (on side hi) })
    step_from side earlier ls line lo hi own fits_lo fits_hi new said later among =
        let op : InspOp = Loop (variable line side) (on side lo) (on side hi) in
        let h = loop_tries nest is_nest s t in_s in_t a e hold side earlier ls line lo hi own fits_lo fits_hi said in
        (all_by (is_among earlier) (is_among later) (uses op) among h.0, h.1)

    said_first : All (IsSaid First) s.around
    said_first = each_said (Holds a e) First s.around (first_is (Holds a e) nest s t hold)

    said_second : All (IsSaid Second) t.around
    said_second = each_said (Holds a e) Second t.around (second_is (Holds a e) nest s t hold)

    tries_first : Along (TriesFrom a e) (HasBoth i_var j_var) [] (first_order nest is_nest s t in_s in_t)
    tries_first =
        along_first (TriesFrom a e) (HasBoth i_var j_var) IsSaid row_from step_from said_first said_second
        (λ after on_s on_t. has_both nest is_nest s t in_s in_t after on_s on_t)

    tries_second : Along (TriesFrom a e) (HasBoth i_var j_var) [] (second_order nest is_nest s t in_s in_t)
    tries_second =
        along_second (TriesFrom a e) (HasBoth i_var j_var) IsSaid row_from step_from said_first said_second
        (λ after on_s on_t. has_both nest is_nest s t in_s in_t after on_s on_t)

  -- Looped, an unknown has a good operation there and wherever more are fixed.

  abbrev pub Good : List VarId → Unknown → Type 0
  Good earlier u = IsGoodAt earlier (loop_of earlier u.var u.span)

  abbrev pub GoodFrom : List VarId → Unknown → Type 0
  GoodFrom earlier u = (later : List VarId) → AreAmong earlier later → Good later u

  module _ (small : IsSmallBase base) where
    abbrev atoms : List Atom
    atoms = atoms_due base [] []

    -- a constraint between atoms of the system, with a small constant
    abbrev IsOver : Diff → Type 0
    IsOver d = (Contains atoms d.a × Contains atoms d.b) × (unsigned_abs d.c ≤ 2 ^ 23)

    all_over : All IsOver base
    all_over k d lt = (due_over base [] [] k d lt, small.sides k d lt)

    within : (x : Term) → Contains atoms x.atom → unsigned_abs x.plus ≤ 2 ^ 31 → IsTrue (term_within (2 ^ 31) x)
    within x c plus = term_small x (atom_small atoms (due_closed base [] []) (due_within (2 ^ 21) base [] small.within) x.atom c) plus

    abbrev IsSaidOver : Side → Around → Type 0
    IsSaidOver side x = All IsOver (said_by side x)

    good_row : (side : Side) (earlier : List VarId) → same_side side Own ≡ false → AreOn side earlier [] → GoodFrom earlier (row_of outer side)
    good_row side earlier moves own later among = row_good outer side later moves

    good_step : (side : Side) (earlier : List VarId) (ls : List ℕ) (line : ℕ) (lo hi : Term) → AreOn side earlier ls → Fits nest.decls ls lo → Fits nest.decls ls hi
        → is_line ls line ≡ false → IsSaidOver side (Repeated line lo hi) → GoodFrom earlier (record { var = variable line side; span = Between (on side lo) (on side hi) })
    good_step side earlier ls line lo hi own fits_lo fits_hi new said later among =
        let x = term_at side line in
        let least : Diff = at_most (on side lo) x in
        let most : Diff = less x (on side hi) in
        let low : IsOver least = All-head IsOver least (most ∷ []) said in
        let high : IsOver most = All-head IsOver most [] (All-tail IsOver least (most ∷ []) said) in
        let cover : (k : ℕ) → is_line ls k ≡ true → is_among later (variable k side) ≡ true = λ k h. among (variable k side) (own k ∙ h) in
        loop_good later (variable line side) (on side lo) (on side hi)
        (on_fixed nest.decls side later ls lo cover fits_lo) (on_fixed nest.decls side later ls hi cover fits_hi)
        (within (on side lo) low.0.0 (from_low (on side lo).plus low.1)) (within (on side hi) high.0.1 (from_high (on side hi).plus high.1))

    said_over_first : All (IsSaidOver First) s.around
    said_over_first = each_said IsOver First s.around (first_is IsOver nest s t all_over)

    said_over_second : All (IsSaidOver Second) t.around
    said_over_second = each_said IsOver Second t.around (second_is IsOver nest s t all_over)

    good_first : Along GoodFrom (HasBoth i_var j_var) [] (first_order nest is_nest s t in_s in_t)
    good_first =
        along_first GoodFrom (HasBoth i_var j_var) IsSaidOver good_row good_step said_over_first said_over_second
        (λ after on_s on_t. has_both nest is_nest s t in_s in_t after on_s on_t)

    good_second : Along GoodFrom (HasBoth i_var j_var) [] (second_order nest is_nest s t in_s in_t)
    good_second =
        along_second GoodFrom (HasBoth i_var j_var) IsSaidOver good_row good_step said_over_first said_over_second
        (λ after on_s on_t. has_both nest is_nest s t in_s in_t after on_s on_t)

  few_on : (side : Side) (x : Site) → Contains (sites nest) x → length (side_of outer side x.around) ≤ 6
  few_on side x c = let n = few_loops nest is_nest x c in let m = unknowns_are side x.around in omega (arith, n, m)

  few_in : (one two : Side) (x y : Site) → Contains (sites nest) x → Contains (sites nest) y → length (side_of outer one x.around ++ side_of outer two y.around) ≤ 12
  few_in one two x y c d =
      let long = length-append (side_of outer one x.around) (side_of outer two y.around) in
      let m = few_on one x c in
      let n = few_on two y d in
      omega (arith, long, m, n)

  -- An order of the sides: each unknown once, and each after those that its loop uses.
  pub record IsSided (us : List Unknown) : Type 0 where
    pub fresh : Along IsFresh (CanTest base) [] us
    pub tries : (a : Lists) (e : List Binding) → AllHold a e base → Along (TriesFrom a e) (HasBoth i_var j_var) [] us
    pub good : Along GoodFrom (HasBoth i_var j_var) [] us
    pub few : length us ≤ 12

  -- An order by some kinds: each unknown once, and each that is looped after those that its loop uses.
  pub record IsOrder (kind : List VarId → VarId → Kind) (us : List Unknown) : Type 0 where
    pub fresh : Along IsFresh (CanTest base) [] us
    pub tries : (a : Lists) (e : List Binding) → AllHold a e base → Along (λ earlier u. kind earlier u.var ≡ Looped → Tries a e earlier u) (HasBoth i_var j_var) [] us
    pub good : Along (λ earlier u. kind earlier u.var ≡ Looped → Good earlier u) (HasBoth i_var j_var) [] us
    pub few : length us ≤ 12

  module _ (small : IsSmallBase base) where
    first_sided : IsSided (first_order nest is_nest s t in_s in_t)
    first_sided = record {
      fresh = fresh_first nest is_nest s t in_s in_t;
      tries = λ a e hold. tries_first a e hold;
      good = good_first small;
      few = few_in First Second s t in_s in_t;
    }

    second_sided : IsSided (second_order nest is_nest s t in_s in_t)
    second_sided = record {
      fresh = fresh_second nest is_nest s t in_s in_t;
      tries = λ a e hold. tries_second a e hold;
      good = good_second small;
      few = few_in Second First t s in_t in_s;
    }

    pub sided_first : IsSided (first_side_first nest (relation nest s t))
    sided_first = subst IsSided (sym (first_is_that nest is_nest s t in_s in_t)) first_sided

    pub sided : (b : Bool) → IsSided (if b then second_side_first nest (relation nest s t) else first_side_first nest (relation nest s t))
    sided true = subst IsSided (sym (second_is_that nest is_nest s t in_s in_t)) second_sided
    sided false = sided_first

  itself : (l : List VarId) → AreAmong l l
  itself l v h = h

  module _ (kind : List VarId → VarId → Kind) (us : List Unknown) (is : IsSided us) where
    pub sided_order : IsOrder kind us
    sided_order = record {
      fresh = is.fresh;
      tries = λ a e hold. along_weaker (TriesFrom a e) (λ earlier u. kind earlier u.var ≡ Looped → Tries a e earlier u) (HasBoth i_var j_var) (HasBoth i_var j_var)
          (λ earlier u h looped. h earlier (itself earlier)) (λ earlier h. h) [] us (is.tries a e hold);
      good = along_weaker GoodFrom (λ earlier u. kind earlier u.var ≡ Looped → Good earlier u) (HasBoth i_var j_var) (HasBoth i_var j_var)
          (λ earlier u h looped. h earlier (itself earlier)) (λ earlier h. h) [] us is.good;
      few = is.few;
    }

    both_more : (l m : List VarId) → AreAmong l m → HasBoth i_var j_var l → HasBoth i_var j_var m
    both_more l m among h = (among i_var h.0, among j_var h.1)

    -- what holds wherever more are fixed holds of each that is looped when its turn comes
    turned_by : (B : List VarId → Unknown → Type 0) → Along (λ earlier u. (later : List VarId) → AreAmong earlier later → B later u) (HasBoth i_var j_var) [] us
        → Along (λ earlier u. kind earlier u.var ≡ Looped → B earlier u) (HasBoth i_var j_var) [] (in_turn kind us)
    turned_by B all =
        let From : List VarId → Unknown → Type 0 = λ earlier u. (later : List VarId) → AreAmong earlier later → B later u in
        let E : List VarId → Type 0 = HasBoth i_var j_var in
        turned_along kind (λ taken left. Along From E taken left) (λ earlier u. kind earlier u.var ≡ Looped → B earlier u) E
        (λ taken b u c h. along_without From E (λ l m x among f later more. f later (λ v i. more v (among v i))) both_more taken b u c h)
        (λ taken b u c h first looped. (subst (λ (z : List Unknown). Along From E taken (z ++ u ∷ c)) (first looped) h).0 taken (itself taken))
        (λ taken h. h) (length us) [] us refl all

    turned_fresh : Along IsFresh (CanTest base) [] (in_turn kind us)
    turned_fresh =
        turned_along kind (λ taken left. Along IsFresh (CanTest base) taken left) IsFresh (CanTest base)
        (λ taken b u c h. (fresh_without (CanTest base) (can_test_more base) taken b u c h).1)
        (λ taken b u c h first. (fresh_without (CanTest base) (can_test_more base) taken b u c h).0)
        (λ taken h. h) (length us) [] us refl is.fresh

    turned_order : IsOrder kind (in_turn kind us)
    turned_order = record {
      fresh = turned_fresh;
      tries = λ a e hold. turned_by (Tries a e) (is.tries a e hold);
      good = turned_by Good is.good;
      few = subst (λ n. n ≤ 12) (sym (turned_length kind (length us) [] us refl)) is.few;
    }

    pub quicker_order : IsOrder kind (quicker kind us)
    quicker_order = by (nat_lt (count_loops kind (in_turn kind us)) (count_loops kind us))
      where
        by : (b : Bool) → IsOrder kind (if b then in_turn kind us else us)
        by true = turned_order
        by false = sided_order
