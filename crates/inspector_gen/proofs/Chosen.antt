-- By the kind of a variable its value is tried, where the constraints that are known hold.
use Rattle.std.proofs.Common.{◌≡◌, ◌⊎◌, inl, inr, ℕ, ◌+◌, ◌-◌, ◌<◌, ℤ, pos, negsuc, ◌+ℤ◌, ◌-ℤ◌, ◌≤ℤ◌, true, false, ◌&&◌, int_le, Option, Some, None, List, [], ◌∷◌, ◌++◌, length, slice_get, refl, sym, ap, ◌∙◌, subst, arith, rules}
use Rattle.std.specs.Int.Signed.{◌<ℤ◌}
use Rattle.std.specs.Ordering.{int_eq}
use Rattle.std.specs.Option.{option_map_or}
use Rattle.std.specs.List.{Contains, flat_map, range_with_len}
use Rattle.std.proofs.lemmas.Int.{ints}
use Rattle.std.proofs.lemmas.Bool.{false≢true}
use Rattle.std.proofs.lemmas.Bool.Decides.{Decides-int_eq}
use Rattle.std.proofs.lemmas.List.Elements.{Contains-append_cases}
use Rattle.wave_base.specs.declared.types.ArrayId.{ArrayId}
use Rattle.loop_core.specs.declared.decl.Size.{Size}
use Rattle.loop_core.specs.declared.decl.Size.TheVariants.{N as of_n, NPlusOne, Nnz as of_nnz}
use Rattle.loop_core.specs.declared.nest.VarId.{VarId}
use Rattle.loop_core.specs.declared.nest.Term.{Term}
use Rattle.loop_core.specs.declared.nest.Atom.{Atom, out-Atom, roll-Atom, roll-out-Atom}
use Rattle.loop_core.specs.declared.nest.Atom as ATOM
use Rattle.loop_core.specs.declared.nest.Atom.TheVariants.{Zero, Var, At}
use Rattle.loop_core.specs.declared.nest.Atom.TheOpen.{Atom-F}
use Rattle.loop_core.specs.Lists.{Lists, list_of, word_at}
use Rattle.loop_core.specs.Binding.{Binding, value_in}
use Rattle.loop_core.specs.Terms.{term_value, atom_value}
use Rattle.loop_core.specs.Sizes.{sizes, size_length, declared_length}
use Rattle.uf_constraints.specs.declared.system.Diff.{Diff}
use Rattle.uf_constraints.specs.Same.{is_listed}
use Rattle.uf_constraints.specs.Truth.{Holds}
use Rattle.uf_constraints.specs.Universe.{plain, next}
use Rattle.index_props.specs.Entries.{size_term, length_term}
use Rattle.index_props.specs.Rules.{at_most, less}
use Rattle.dep_extract.proofs.Members.{both, here, from_flat}
use Rattle.dep_extract.proofs.Holding.{up_to_means, under_means, zero_is}
use Rattle.inspector_run.specs.declared.plan.InspOp.TheVariants.{Let, Find, Locate}
use Rattle.inspector_run.specs.Tries.{word, places_of, place_up_to, moved}
use Rattle.inspector_run.specs.Ready.{IsAscending}
use Rattle.inspector_gen.specs.declared.kind.Kind.{Kind}
use Rattle.inspector_gen.specs.declared.kind.Kind.TheVariants.{Looped}
use Rattle.inspector_gen.specs.declared.kind.Way.TheVariants as ways
use Rattle.inspector_gen.specs.declared.unknown.Unknown.{Unknown}
use Rattle.inspector_gen.specs.Known.{is_at_most, knows, constant_between}
use Rattle.inspector_gen.specs.Kinds.{Facts, is_fixed, term_of, place, entry_at, kinds_along, is_variable, is_place, is_rising, may_find, found_at, located_at, candidates, kind_of}
use Rattle.inspector_gen.specs.Plans.{operation, loop_of}
use Rattle.inspector_gen.proofs.Lists.{in_map, in_filter, in_range, greatest_is}
use Rattle.inspector_gen.proofs.Along.{TriesIt, variable_is}
use Rattle.inspector_gen.proofs.Candidates.{pick_or, constant_is, below_is, along_is, uses_fixed, found_from, located_from}

le_means : (x y : ℤ) → int_le x y ≡ true → x ≤ℤ y
le_means x y h = grind (arith, ints)

le_true : (x y : ℤ) → x ≤ℤ y → int_le x y ≡ true
le_true x y h = grind (arith, ints)

le_false : (x y : ℤ) → y <ℤ x → int_le x y ≡ false
le_false x y h = grind (arith, ints)

known_is : (o : Option ℤ) (c : ℤ) → is_at_most c o ≡ true → (least : ℤ) × (o ≡ Some least) × (least ≤ℤ c)
known_is None c h = absurd (false≢true h)
known_is (Some l) c h = (l, refl, le_means l c h)

-- The values of terms.

module _ (a : Lists) (e : List Binding) where
  pub split : (t : Term) → term_value a e t ≡ (atom_value a e t.atom +ℤ t.plus)
  split t = search (rules, ATOM.TheFolds.the_lemmas)

  pub var_value : (v : VarId) → atom_value a e (Var v) ≡ value_in e v
  var_value v = search (rules, ATOM.TheFolds.the_lemmas)

  at_value : (array : ArrayId) (t : Term) → atom_value a e (At array t) ≡ word_at (list_of a.lists array) (term_value a e t)
  at_value array t = search (rules, ATOM.TheFolds.the_lemmas)

  place_value : (v : VarId) (plus : ℤ) → term_value a e (place v plus) ≡ (value_in e v +ℤ plus)
  place_value v plus = split (place v plus) ∙ ap (λ z. z +ℤ plus) (var_value v)

  entry_value : (v : VarId) (array : ArrayId) (plus : ℤ) (k : ℕ) → (value_in e v +ℤ plus) ≡ pos k → atom_value a e (entry_at v array plus) ≡ word (list_of a.lists array) k
  entry_value v array plus k is = at_value array (place v plus) ∙ ap (word_at (list_of a.lists array)) (place_value v plus ∙ is)

  variable_value : (v : VarId) (x : Atom) → is_variable v (out-Atom x) ≡ true → atom_value a e x ≡ value_in e v
  variable_value v x h = by (out-Atom x) refl h
    where
      by : (l : Atom-F Atom Term) → out-Atom x ≡ l → is_variable v l ≡ true → atom_value a e x ≡ value_in e v
      by (Atom-F.Var w) is s =
          let rolled : atom_value a e (roll-Atom (Atom-F.Var w)) ≡ value_in e w = search (rules, ATOM.TheFolds.the_lemmas) in
          subst (λ z. atom_value a e z ≡ value_in e v) (sym (ap roll-Atom is) ∙ roll-out-Atom x) (rolled ∙ ap (value_in e) (variable_is w v s))
      by Atom-F.Zero is s = absurd (false≢true s)
      by Atom-F.N is s = absurd (false≢true s)
      by Atom-F.Nnz is s = absurd (false≢true s)
      by (Atom-F.At g t) is s = absurd (false≢true s)

  size_value : (size : Option Size) → term_value a e (size_term size) ≡ pos (option_map_or (size_length a.n a.nnz) size 0)
  size_value None = search (rules, ATOM.TheFolds.the_lemmas)
  size_value (Some of_n) = search (rules, ATOM.TheFolds.the_lemmas)
  size_value (Some NPlusOne) = search (rules, ATOM.TheFolds.the_lemmas)
  size_value (Some of_nnz) = search (rules, ATOM.TheFolds.the_lemmas)

number : (z : ℤ) → pos 0 ≤ℤ z → (k : ℕ) × (z ≡ pos k)
number (pos k) h = (k, refl)
number (negsuc k) h = absurd (omega (arith, ints, h))

module _ (a : Lists) (e : List Binding) (f : Facts)
    (known : (x y : Atom) (c : ℤ) → f.bounds x y ≡ Some c → (atom_value a e x -ℤ atom_value a e y) ≤ℤ c)
    (long : (array : ArrayId) (t : Term) → Contains f.atoms (At array t) → length (list_of a.lists array) ≡ declared_length f.decls a.n a.nnz array)
    (ascends : (p : ArrayId) → is_rising f.props p ≡ true → IsAscending (list_of a.lists p)) where
  knows_holds : (d : Diff) → knows f.bounds d ≡ true → Holds a e d
  knows_holds d h =
      let t = known_is (f.bounds d.a d.b) d.c h in
      let k = known d.a d.b t.0 t.1 in
      let l = t.2 in
      omega (arith, ints, k, l)

  equal_by : (x y : Atom) (c : ℤ) → Contains (constant_between f.bounds x y) c → atom_value a e x ≡ (atom_value a e y +ℤ c)
  equal_by x y c h =
      let t = constant_is (f.bounds x y) (f.bounds y x) c h in
      let up = known x y c t.0 in
      let down = known y x t.1.0 t.1.1 in
      let sum = t.1.2 in
      omega (arith, ints, up, down, sum)

  -- v + plus is a place
  abbrev IsAt : VarId → ArrayId → ℤ → Type 0
  IsAt v array plus = (s : ℕ) × ((value_in e v +ℤ plus) ≡ pos s) × (s < length (list_of a.lists array))

  is_at : (v : VarId) (array : ArrayId) (t : Term) → length (list_of a.lists array) ≡ declared_length f.decls a.n a.nnz array
      → atom_value a e t.atom ≡ value_in e v → is_place f array t ≡ true → IsAt v array t.plus
  is_at v array t size is h =
      let extent = length_term f.decls array in
      let two = both (knows f.bounds (at_most (plain Zero) t)) (knows f.bounds (less t extent) && true) h in
      let low = up_to_means a e (plain Zero) t (knows_holds (at_most (plain Zero) t) two.0) in
      let high = under_means a e t extent (knows_holds (less t extent) (both (knows f.bounds (less t extent)) true two.1).0) in
      let zero_there = zero_is a e in
      let end : term_value a e extent ≡ pos (declared_length f.decls a.n a.nnz array) = size_value a e (slice_get (sizes f.decls) array.0) in
      let value : term_value a e t ≡ (value_in e v +ℤ t.plus) = split a e t ∙ ap (λ z. z +ℤ t.plus) is in
      let n = number (value_in e v +ℤ t.plus) (omega (arith, ints, low, zero_there, value)) in
      let same : (value_in e v +ℤ t.plus) ≡ pos n.0 = n.1 in
      (n.0, same, omega (arith, ints, high, end, value, same, size))

  moved_back : (v : VarId) (plus : ℤ) (s : ℕ) (places : List ℕ) → (value_in e v +ℤ plus) ≡ pos s → Contains places s → Contains (moved plus places) (value_in e v)
  moved_back v plus s places is h =
      let same : (pos s -ℤ plus) ≡ value_in e v = omega (arith, ints, is) in
      subst (Contains (moved plus places)) same (in_map (λ k. pos k -ℤ plus) places s h)

  module _ (earlier : List VarId) (u : Unknown) where
    abbrev v : VarId
    v = u.var

    abbrev Tries : Kind → Type 0
    Tries k = TriesIt a e earlier v (operation earlier u k)

    -- given

    given_tries : (k : Kind) → Contains (kinds_along f earlier v ways.Given) k → Tries k
    given_tries k h =
        let t = along_is f earlier v ways.Given k h in
        let term : Term = term_of t.0 t.1 in
        let same : term_value a e term ≡ value_in e v = split a e term ∙ sym (equal_by (Var v) t.0 t.1 t.3) ∙ var_value a e v in
        let it : TriesIt a e earlier v (Let v term) = (uses_fixed earlier t.0 t.1 t.2, subst (Contains (term_value a e term ∷ [])) same (here (term_value a e term) [])) in
        subst Tries t.4 it

    -- found

    find_tries : (array : ArrayId) (plus : ℤ) (x : Atom) (c : ℤ) → is_fixed earlier x ≡ true → IsAt v array plus
        → atom_value a e (entry_at v array plus) ≡ (atom_value a e x +ℤ c) → TriesIt a e earlier v (Find v array plus (term_of x c))
    find_tries array plus x c fixed at is =
        let list = list_of a.lists array in
        let value = term_value a e (term_of x c) in
        let here_is : word list at.0 ≡ value = sym (entry_value a e v array plus at.0 at.1) ∙ is ∙ sym (split a e (term_of x c)) in
        let found : Contains (places_of list value) at.0 =
        in_filter (λ s. int_eq (word list s) value) (range_with_len 0 (length list)) at.0 (in_range (length list) at.0 at.2) ((Decides-int_eq (word list at.0) value).1 here_is) in
        (uses_fixed earlier x c fixed, moved_back v plus at.0 (places_of list value) at.1 found)

    found_tries : (k : Kind) → Contains (flat_map (found_at f earlier v) f.atoms) k → Tries k
    found_tries k h =
        let m = from_flat (found_at f earlier v) f.atoms k h in
        let n = found_from f earlier v k m.0 (out-Atom m.0) refl m.2 in
        let t = along_is f earlier v (ways.Found n.0 n.1.plus) k n.4 in
        let may = both (is_variable v (out-Atom n.1.atom)) (is_place f n.0 n.1) n.3 in
        let at = is_at v n.0 n.1 (long n.0 n.1 (subst (Contains f.atoms) n.2 m.1)) (variable_value a e v n.1.atom may.0) may.1 in
        subst Tries t.4 (find_tries n.0 n.1.plus t.0 t.1 t.2 at (equal_by (entry_at v n.0 n.1.plus) t.0 t.1 t.3))

    -- located

    locate_tries : (array : ArrayId) (plus : ℤ) (x : Atom) (c : ℤ) → is_fixed earlier x ≡ true → IsAt v array plus → IsAt v array (plus +ℤ pos 1)
        → IsAscending (list_of a.lists array)
        → (atom_value a e (entry_at v array plus) -ℤ atom_value a e x) ≤ℤ c
        → (atom_value a e x -ℤ atom_value a e (entry_at v array (plus +ℤ pos 1))) ≤ℤ (negsuc 0 -ℤ c)
        → TriesIt a e earlier v (Locate v array plus (term_of x c))
    locate_tries array plus x c fixed at after rising low high =
        let list = list_of a.lists array in
        let value = term_value a e (term_of x c) in
        let value_is : value ≡ (atom_value a e x +ℤ c) = split a e (term_of x c) in
        let here_is = entry_value a e v array plus at.0 at.1 in
        let after_is = entry_value a e v array (plus +ℤ pos 1) after.0 after.1 in
        let at_is = at.1 in
        let then_is = after.1 in
        let within = after.2 in
        let next_is : after.0 ≡ at.0 + 1 = omega (arith, ints, at_is, then_is) in
        let low_here : word list at.0 ≤ℤ value = omega (arith, ints, low, value_is, here_is) in
        let high_there : value <ℤ word list after.0 = omega (arith, ints, high, value_is, after_is) in
        let above : (k : ℕ) → at.0 < k → k < length list - 1 → int_le (word list k) value ≡ false =
        λ k g l. let up = rising after.0 k (omega (arith, next_is, g)) (omega (arith, l)) in le_false (word list k) value (omega (arith, ints, up, high_there)) in
        let found : Contains (place_up_to list value) at.0 =
        greatest_is (λ s. int_le (word list s) value) (length list - 1) at.0 (omega (arith, next_is, within)) (le_true (word list at.0) value low_here) above in
        (uses_fixed earlier x c fixed, moved_back v plus at.0 (place_up_to list value) at.1 found)

    located_tries : (k : Kind) → Contains (flat_map (located_at f earlier v) f.atoms) k → Tries k
    located_tries k h =
        let m = from_flat (located_at f earlier v) f.atoms k h in
        let n = located_from f earlier v k m.0 (out-Atom m.0) refl m.2 in
        let array : ArrayId = n.0 in
        let t : Term = n.1 in
        let w = along_is f earlier v (ways.Located array t.plus) k n.4 in
        let may = both (may_find f v array t) (is_rising f.props array && (is_listed f.atoms (At array (next t)) && is_place f array (next t))) n.3 in
        let find = both (is_variable v (out-Atom t.atom)) (is_place f array t) may.0 in
        let rest = both (is_rising f.props array) (is_listed f.atoms (At array (next t)) && is_place f array (next t)) may.1 in
        let last = both (is_listed f.atoms (At array (next t))) (is_place f array (next t)) rest.1 in
        let size = long array t (subst (Contains f.atoms) n.2 m.1) in
        let variable = variable_value a e v t.atom find.0 in
        let at = is_at v array t size variable find.1 in
        let after = is_at v array (next t) size variable last.1 in
        let below = below_is f.bounds w.0 (entry_at v array (t.plus +ℤ pos 1)) (f.bounds (entry_at v array t.plus) w.0) w.1 w.3 in
        let high = knows_holds (record { a = w.0; b = entry_at v array (t.plus +ℤ pos 1); c = negsuc 0 -ℤ w.1 }) below.1 in
        subst Tries w.4 (locate_tries array t.plus w.0 w.1 w.2 at after (ascends array rest.0) (known (entry_at v array t.plus) w.0 w.1 below.0) high)

    -- any

    pub each_tries : (k : Kind) → Contains (candidates f earlier v) k → Tries k
    each_tries k h = by (Contains-append_cases (kinds_along f earlier v ways.Given) (flat_map (found_at f earlier v) f.atoms ++ flat_map (located_at f earlier v) f.atoms) k h)
      where
        rest : Contains (flat_map (found_at f earlier v) f.atoms) k ⊎ Contains (flat_map (located_at f earlier v) f.atoms) k → Tries k
        rest (inl c) = found_tries k c
        rest (inr c) = located_tries k c

        by : Contains (kinds_along f earlier v ways.Given) k ⊎ Contains (flat_map (found_at f earlier v) f.atoms ++ flat_map (located_at f earlier v) f.atoms) k → Tries k
        by (inl c) = given_tries k c
        by (inr c) = rest (Contains-append_cases (flat_map (found_at f earlier v) f.atoms) (flat_map (located_at f earlier v) f.atoms) k c)

    pub kind_tries : (kind_of f earlier u.var ≡ Looped → TriesIt a e earlier u.var (loop_of earlier u.var u.span)) → TriesIt a e earlier u.var (operation earlier u (kind_of f earlier u.var))
    kind_tries looped = pick_or Tries (candidates f earlier v) each_tries looped
