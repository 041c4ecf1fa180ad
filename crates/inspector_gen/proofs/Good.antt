-- The operation of a variable uses variables that are fixed and has small constants, and searches arrays that rise.
use Rattle.std.proofs.Common.{◌≡◌, ◌⊎◌, inl, inr, ◌≤◌, ◌^◌, ℤ, pos, ◌+ℤ◌, IsTrue, Bool, true, false, ◌&&◌, unsigned_abs, Some, List, ◌++◌, refl, subst}
use Rattle.std.specs.List.{Contains, flat_map}
use Rattle.std.proofs.lemmas.List.Elements.{Contains-append_cases}
use Rattle.wave_base.specs.declared.types.ArrayId.{ArrayId}
use Rattle.loop_core.specs.declared.nest.VarId.{VarId}
use Rattle.loop_core.specs.declared.nest.Term.{Term}
use Rattle.loop_core.specs.declared.nest.Atom.{Atom, out-Atom}
use Rattle.loop_core.specs.declared.nest.Atom.TheVariants.{Var, At}
use Rattle.loop_core.specs.Lists.{Lists, list_of}
use Rattle.uf_constraints.specs.Constants.{atom_within, term_within}
use Rattle.uf_constraints.specs.Same.{is_listed}
use Rattle.uf_constraints.specs.Universe.{next}
use Rattle.dep_extract.proofs.Members.{both, from_flat}
use Rattle.inspector_run.specs.declared.plan.InspOp.TheVariants.{Let, Find, Locate}
use Rattle.inspector_run.specs.Ready.{IsAscending, SearchesAscending}
use Rattle.inspector_gen.specs.declared.kind.Kind.{Kind}
use Rattle.inspector_gen.specs.declared.kind.Kind.TheVariants.{Looped}
use Rattle.inspector_gen.specs.declared.kind.Way.TheVariants as ways
use Rattle.inspector_gen.specs.declared.unknown.Unknown.{Unknown}
use Rattle.inspector_gen.specs.declared.unknown.Span.{Span}
use Rattle.inspector_gen.specs.declared.unknown.Span.TheVariants.{Rows, Between}
use Rattle.inspector_gen.specs.Kinds.{Facts, term_of, entry_at, kinds_along, is_place, is_rising, may_find, found_at, located_at, candidates, kind_of}
use Rattle.inspector_gen.specs.Plans.{loop_over_rows, loop_of, is_first_side, other_row, operation}
use Rattle.inspector_run.specs.IsPlan.{is_among}
use Rattle.inspector_gen.proofs.Candidates.{pick_or, constant_is, below_is, along_is, uses_fixed, found_from, located_from}
use Rattle.inspector_gen.proofs.Constants.{term_small}
use Rattle.inspector_gen.proofs.Formed.{IsGoodAt}

-- each kind of a list is one of those by given, found and located
three_cases : (f : Facts) (earlier : List VarId) (v : VarId) (P : Kind → Type 0)
    → ((k : Kind) → Contains (kinds_along f earlier v ways.Given) k → P k)
    → ((k : Kind) → Contains (flat_map (found_at f earlier v) f.atoms) k → P k)
    → ((k : Kind) → Contains (flat_map (located_at f earlier v) f.atoms) k → P k)
    → (k : Kind) → Contains (candidates f earlier v) k → P k
three_cases f earlier v P given found located k h = by (Contains-append_cases (kinds_along f earlier v ways.Given) (flat_map (found_at f earlier v) f.atoms ++ flat_map (located_at f earlier v) f.atoms) k h)
  where
    rest : Contains (flat_map (found_at f earlier v) f.atoms) k ⊎ Contains (flat_map (located_at f earlier v) f.atoms) k → P k
    rest (inl c) = found k c
    rest (inr c) = located k c

    by : Contains (kinds_along f earlier v ways.Given) k ⊎ Contains (flat_map (found_at f earlier v) f.atoms ++ flat_map (located_at f earlier v) f.atoms) k → P k
    by (inl c) = given k c
    by (inr c) = rest (Contains-append_cases (flat_map (found_at f earlier v) f.atoms) (flat_map (located_at f earlier v) f.atoms) k c)

-- Small constants.

module _ (f : Facts) (atoms : (x : Atom) → Contains f.atoms x → IsTrue (atom_within (2 ^ 31) x)) (indexes : (g : ArrayId) (t : Term) → Contains f.atoms (At g t) → unsigned_abs t.plus ≤ 2 ^ 31)
    (bounded : (x y : Atom) (c : ℤ) → f.bounds x y ≡ Some c → unsigned_abs c ≤ 2 ^ 31) (earlier : List VarId) (u : Unknown) where
  abbrev v : VarId
  v = u.var

  abbrev Good : Kind → Type 0
  Good k = IsGoodAt earlier (operation earlier u k)

  term_good : (x : Atom) (c : ℤ) → Contains f.atoms x → unsigned_abs c ≤ 2 ^ 31 → IsTrue (term_within (2 ^ 31) (term_of x c))
  term_good x c h small = term_small (term_of x c) (atoms x h) small

  given_good : (k : Kind) → Contains (kinds_along f earlier v ways.Given) k → Good k
  given_good k h =
      let t = along_is f earlier v ways.Given k h in
      let c = constant_is (f.bounds (Var v) t.0) (f.bounds t.0 (Var v)) t.1 t.3 in
      let it : IsGoodAt earlier (Let v (term_of t.0 t.1)) = (uses_fixed earlier t.0 t.1 t.2, term_good t.0 t.1 t.5 (bounded (Var v) t.0 t.1 c.0)) in
      subst Good t.4 it

  found_good : (k : Kind) → Contains (flat_map (found_at f earlier v) f.atoms) k → Good k
  found_good k h =
      let m = from_flat (found_at f earlier v) f.atoms k h in
      let n = found_from f earlier v k m.0 (out-Atom m.0) refl m.2 in
      let array : ArrayId = n.0 in
      let plus : ℤ = n.1.plus in
      let t = along_is f earlier v (ways.Found array plus) k n.4 in
      let entry = entry_at v array plus in
      let c = constant_is (f.bounds entry t.0) (f.bounds t.0 entry) t.1 t.3 in
      let it : IsGoodAt earlier (Find v array plus (term_of t.0 t.1)) =
      (uses_fixed earlier t.0 t.1 t.2, (indexes array n.1 (subst (Contains f.atoms) n.2 m.1), term_good t.0 t.1 t.5 (bounded entry t.0 t.1 c.0))) in
      subst Good t.4 it

  located_good : (k : Kind) → Contains (flat_map (located_at f earlier v) f.atoms) k → Good k
  located_good k h =
      let m = from_flat (located_at f earlier v) f.atoms k h in
      let n = located_from f earlier v k m.0 (out-Atom m.0) refl m.2 in
      let array : ArrayId = n.0 in
      let plus : ℤ = n.1.plus in
      let t = along_is f earlier v (ways.Located array plus) k n.4 in
      let entry = entry_at v array plus in
      let c = below_is f.bounds t.0 (entry_at v array (plus +ℤ pos 1)) (f.bounds entry t.0) t.1 t.3 in
      let it : IsGoodAt earlier (Locate v array plus (term_of t.0 t.1)) =
      (uses_fixed earlier t.0 t.1 t.2, (indexes array n.1 (subst (Contains f.atoms) n.2 m.1), term_good t.0 t.1 t.5 (bounded entry t.0 t.1 c.0))) in
      subst Good t.4 it

  pub kind_good : (kind_of f earlier u.var ≡ Looped → IsGoodAt earlier (loop_of earlier u.var u.span)) → IsGoodAt earlier (operation earlier u (kind_of f earlier u.var))
  kind_good looped = pick_or Good (candidates f earlier v) (three_cases f earlier v Good given_good found_good located_good) looped

-- Arrays that rise.

rows_search : (a : Lists) (v other : VarId) (first known : Bool) → SearchesAscending a (loop_over_rows v other first known)
rows_search a v other true true = tt
rows_search a v other false true = tt
rows_search a v other true false = tt
rows_search a v other false false = tt

pub loop_searches : (a : Lists) (earlier : List VarId) (v : VarId) (span : Span) → SearchesAscending a (loop_of earlier v span)
loop_searches a earlier v Rows = rows_search a v (other_row v) (is_first_side v.side) (is_among earlier (other_row v))
loop_searches a earlier v (Between lo hi) = tt

module _ (f : Facts) (a : Lists) (ascends : (p : ArrayId) → is_rising f.props p ≡ true → IsAscending (list_of a.lists p)) (earlier : List VarId) (u : Unknown) where
  abbrev Searches : Kind → Type 0
  Searches k = SearchesAscending a (operation earlier u k)

  given_searches : (k : Kind) → Contains (kinds_along f earlier u.var ways.Given) k → Searches k
  given_searches k h = let t = along_is f earlier u.var ways.Given k h in subst Searches t.4 tt

  found_searches : (k : Kind) → Contains (flat_map (found_at f earlier u.var) f.atoms) k → Searches k
  found_searches k h =
      let m = from_flat (found_at f earlier u.var) f.atoms k h in
      let n = found_from f earlier u.var k m.0 (out-Atom m.0) refl m.2 in
      let t = along_is f earlier u.var (ways.Found n.0 n.1.plus) k n.4 in
      subst Searches t.4 tt

  located_searches : (k : Kind) → Contains (flat_map (located_at f earlier u.var) f.atoms) k → Searches k
  located_searches k h =
      let m = from_flat (located_at f earlier u.var) f.atoms k h in
      let n = located_from f earlier u.var k m.0 (out-Atom m.0) refl m.2 in
      let array : ArrayId = n.0 in
      let term : Term = n.1 in
      let t = along_is f earlier u.var (ways.Located array term.plus) k n.4 in
      let may = both (may_find f u.var array term) (is_rising f.props array && (is_listed f.atoms (At array (next term)) && is_place f array (next term))) n.3 in
      let rest = both (is_rising f.props array) (is_listed f.atoms (At array (next term)) && is_place f array (next term)) may.1 in
      subst Searches t.4 (ascends array rest.0)

  pub kind_searches : SearchesAscending a (operation earlier u (kind_of f earlier u.var))
  kind_searches = pick_or Searches (candidates f earlier u.var) (three_cases f earlier u.var Searches given_searches found_searches located_searches) (λ e. loop_searches a earlier u.var u.span)
