-- Each line of the table of rules is sound.
use Rattle.std.proofs.Common.{ℕ, ℤ, pos, negsuc, ◌≤ℤ◌, ◌+◌, ◌<◌, ◌≡◌, ◌⊎◌, inl, inr, IsTrue, true, false, List, [], ◌∷◌, ◌++◌, length, sym, ap, ◌∙◌, subst, arith, lit<}
use Rattle.std.specs.Int.Signed.{◌<ℤ◌}
use Rattle.std.proofs.lemmas.Int.{ints}
use Rattle.std.proofs.lemmas.Bool.{cases_order}
use Rattle.std.proofs.lemmas.List.Elements.{All-cons, All-nil, All-head, All-tail}
use Rattle.std.specs.List.{All}
use Rattle.wave_base.specs.declared.types.ArrayId.{ArrayId}
use Rattle.loop_core.specs.declared.decl.Decl.{Decl}
use Rattle.loop_core.specs.declared.decl.PropKind.{PropKind}
use Rattle.loop_core.specs.declared.decl.PropKind.TheVariants.{Range, Rising, Strict, Injective, Sorted, Below, Upto, Diagonal, Before}
use Rattle.loop_core.specs.declared.nest.Term.{Term}
use Rattle.loop_core.specs.declared.nest.Atom.TheVariants.{Zero, At}
use Rattle.loop_core.specs.Lists.{Lists, list_of, word_at}
use Rattle.loop_core.specs.Binding.{Binding}
use Rattle.loop_core.specs.Terms.{term_value}
use Rattle.loop_core.specs.Sizes.{is_index}
use Rattle.loop_core.specs.IsNest.{is_bound}
use Rattle.uf_constraints.specs.declared.system.Diff.{Diff}
use Rattle.uf_constraints.specs.Truth.{Holds, AllHold}
use Rattle.uf_constraints.specs.Universe.{plain, next}
use Rattle.index_props.specs.declared.rule.PairLine.TheVariants.{Equal as EqualLine, Injective as InjectiveLine, Ordered as OrderedLine}
use Rattle.index_props.specs.Entries.{entry_of, length_term}
use Rattle.index_props.specs.Rules.{at_most, less, equal, seg, pair_instance, range_instance, sorted_instance, limit_instance, diagonal_instance, before_instance, order}
use Rattle.index_props.specs.Meanings.{at, Means, InSegment, RisingList, StrictList}
use Rattle.index_props.specs.Sound.{IndexLengths, IsSound, segment_of}
use Rattle.rule_laws.proofs.Values.{at_most_to, at_most_from, less_to, less_from, entry_value, next_value, bound_value, IsPlace, is_place}

none : Diff
none = record { a = Zero; b = Zero; c = pos 0 }

one : (a : Lists) (env : List Binding) (d : Diff) → Holds a env d → AllHold a env (d ∷ [])
one a env d h = All-cons (Holds a env) d [] h (All-nil (Holds a env))

two : (a : Lists) (env : List Binding) (d e : Diff) → Holds a env d → Holds a env e → AllHold a env (d ∷ e ∷ [])
two a env d e h g = All-cons (Holds a env) d (e ∷ []) h (one a env e g)

equal_from : (a : Lists) (env : List Binding) (s t : Term) → term_value a env s ≡ term_value a env t → AllHold a env (equal s t)
equal_from a env s t e =
    two a env (at_most s t) (at_most t s) (at_most_from a env s t (omega (arith, ints))) (at_most_from a env t s (omega (arith, ints)))

equal_to : (a : Lists) (env : List Binding) (s t : Term) → Holds a env (at_most s t) → Holds a env (at_most t s) → term_value a env s ≡ term_value a env t
equal_to a env s t h g =
    let x = at_most_to a env s t h in let y = at_most_to a env t s g in omega (arith, ints)

pub equal_sound : (decls : List Decl) (kind : PropKind) (f : ArrayId) (s t : Term) → IsSound decls kind (pair_instance EqualLine (entry_of decls f s) (entry_of decls f t))
equal_sound decls kind f s t a env lengths means h =
    let same = equal_to a env s t (h 0 none (lit< tt)) (h 1 none (lit< tt)) in
    equal_from a env (plain (At f s)) (plain (At f t)) (entry_value a env f s ∙ ap (word_at (list_of a.lists f)) same ∙ sym (entry_value a env f t))

pub range_sound : (decls : List Decl) (f : ArrayId) (lo hi t : Term) → IsTrue (is_bound lo) → IsTrue (is_bound hi) → IsTrue (is_index decls f) → IsSound decls (Range f lo hi) (range_instance lo hi (entry_of decls f t))
range_sound decls f lo hi t lo_bound hi_bound index a env lengths means h =
    let p = is_place decls a env f t lengths index (h 0 none (lit< tt)) (h 1 none (lit< tt)) in
    let m = means p.k p.within in
    let low = m.0 in
    let high = m.1 in
    let value = p.value in
    let l = bound_value a env lo lo_bound in
    let u = bound_value a env hi hi_bound in
    two a env (at_most lo (plain (At f t))) (less (plain (At f t)) hi) (at_most_from a env lo (plain (At f t)) (omega (arith, ints))) (less_from a env (plain (At f t)) hi (omega (arith, ints)))

pub rising_forth : (decls : List Decl) (p : ArrayId) (s t : Term) → IsTrue (is_index decls p) → IsSound decls (Rising p) (pair_instance (OrderedLine (order false false)) (entry_of decls p s) (entry_of decls p t))
rising_forth decls p s t index a env lengths means h =
    let x = is_place decls a env p s lengths index (h 0 none (lit< tt)) (h 1 none (lit< tt)) in
    let y = is_place decls a env p t lengths index (h 2 none (lit< tt)) (h 3 none (lit< tt)) in
    let le = at_most_to a env s t (h 4 none (lit< tt)) in
    let xs = x.here in let ys = y.here in let xv = x.value in let yv = y.value in
    let m = means x.k y.k (omega (arith, ints)) y.within in
    one a env (at_most (plain (At p s)) (plain (At p t))) (at_most_from a env (plain (At p s)) (plain (At p t)) (omega (arith, ints)))

-- the order of two numbers, as cases
cases_z : (x y : ℤ) → (x ≡ y) ⊎ ((x <ℤ y) ⊎ (y <ℤ x))
cases_z (pos a) (pos b) = elim (cases_order a b) [
  | inl e ↦ inl (ap pos e)
  | inr r ↦ elim r [ inl lt ↦ inr (inl (omega (arith, ints))) | inr gt ↦ inr (inr (omega (arith, ints))) ]
]
cases_z (pos a) (negsuc b) = inr (inr (omega (arith, ints)))
cases_z (negsuc a) (pos b) = inr (inl (omega (arith, ints)))
cases_z (negsuc a) (negsuc b) = elim (cases_order a b) [
  | inl e ↦ inl (ap negsuc e)
  | inr r ↦ elim r [ inl lt ↦ inr (inr (omega (arith, ints))) | inr gt ↦ inr (inl (omega (arith, ints))) ]
]

rising_values : (p : List ℤ) (i j : ℕ) → RisingList p → i < length p → j < length p → at p i <ℤ at p j → i < j
rising_values p i j rising i_in j_in less_at = elim (cases_order i j) [
  | inl e ↦ let r : at p j ≤ℤ at p i = rising j i (omega arith) i_in in absurd (omega (arith, ints))
  | inr o ↦ elim o [
    | inl lt ↦ lt
    | inr gt ↦ let r : at p j ≤ℤ at p i = rising j i (omega arith) i_in in absurd (omega (arith, ints))
  ]
]

-- what strictness says of two places
pub record Strictly (x y fx fy : ℤ) : Type 0 where
  pub up : x <ℤ y → fx <ℤ fy
  pub down : y <ℤ x → fy <ℤ fx
  pub same : x ≡ y → fx ≡ fy

strictly_weak : (x y fx fy : ℤ) → Strictly x y fx fy → x ≤ℤ y → fx ≤ℤ fy
strictly_weak x y fx fy s h = elim (cases_z x y) [
  | inl e ↦ let r : fx ≡ fy = s.same e in omega (arith, ints)
  | inr o ↦ elim o [ inl lt ↦ let r : fx <ℤ fy = s.up lt in omega (arith, ints) | inr gt ↦ absurd (omega (arith, ints)) ]
]

strictly_back : (x y fx fy : ℤ) → Strictly x y fx fy → fx ≤ℤ fy → x ≤ℤ y
strictly_back x y fx fy s h = elim (cases_z x y) [
  | inl e ↦ omega (arith, ints)
  | inr o ↦ elim o [
    | inl lt ↦ omega (arith, ints)
    | inr gt ↦ let r : fy <ℤ fx = s.down gt in absurd (omega (arith, ints))
  ]
]

strictly_back_less : (x y fx fy : ℤ) → Strictly x y fx fy → fx <ℤ fy → x <ℤ y
strictly_back_less x y fx fy s h = elim (cases_z x y) [
  | inl e ↦ let r : fx ≡ fy = s.same e in absurd (omega (arith, ints))
  | inr o ↦ elim o [ inl lt ↦ lt | inr gt ↦ let r : fy <ℤ fx = s.down gt in absurd (omega (arith, ints)) ]
]

-- the four lines for an order, from strictness
pub record FourLines (a : Lists) (env : List Binding) (s t fs ft : Term) : Type 0 where
  pub strict_forth : Holds a env (less s t) → Holds a env (less fs ft)
  pub weak_forth : Holds a env (at_most s t) → Holds a env (at_most fs ft)
  pub weak_back : Holds a env (at_most fs ft) → Holds a env (at_most s t)
  pub strict_back : Holds a env (less fs ft) → Holds a env (less s t)

four_lines : (a : Lists) (env : List Binding) (s t fs ft : Term) → Strictly (term_value a env s) (term_value a env t) (term_value a env fs) (term_value a env ft) → FourLines a env s t fs ft
four_lines a env s t fs ft strictly =
    record {
      strict_forth = λ h. less_from a env fs ft (strictly.up (less_to a env s t h));
      weak_forth = λ h. at_most_from a env fs ft (strictly_weak _ _ _ _ strictly (at_most_to a env s t h));
      weak_back = λ h. at_most_from a env s t (strictly_back _ _ _ _ strictly (at_most_to a env fs ft h));
      strict_back = λ h. less_from a env s t (strictly_back_less _ _ _ _ strictly (less_to a env fs ft h));
    }

strictly_from : (a : Lists) (env : List Binding) (f : ArrayId) (s t : Term) (x : IsPlace a env f s) (y : IsPlace a env f t) → (x.k < y.k → at (list_of a.lists f) x.k <ℤ at (list_of a.lists f) y.k) → (y.k < x.k → at (list_of a.lists f) y.k <ℤ at (list_of a.lists f) x.k) → Strictly (term_value a env s) (term_value a env t) (term_value a env (plain (At f s))) (term_value a env (plain (At f t)))
strictly_from a env f s t x y up down =
    let xs = x.here in
    let ys = y.here in
    let xv = x.value in
    let yv = y.value in
    record {
      up = λ h. let lt : x.k < y.k = omega (arith, ints) in let r = up lt in omega (arith, ints);
      down = λ h. let lt : y.k < x.k = omega (arith, ints) in let r = down lt in omega (arith, ints);
      same = λ e. entry_value a env f s ∙ ap (word_at (list_of a.lists f)) e ∙ sym (entry_value a env f t);
    }

strict_lines : (decls : List Decl) (a : Lists) (env : List Binding) (p : ArrayId) (s t : Term) → IndexLengths decls a → IsTrue (is_index decls p) → StrictList (list_of a.lists p) → Holds a env (at_most (plain Zero) s) → Holds a env (less s (length_term decls p)) → Holds a env (at_most (plain Zero) t) → Holds a env (less t (length_term decls p)) → FourLines a env s t (plain (At p s)) (plain (At p t))
strict_lines decls a env p s t lengths index means h0 h1 h2 h3 =
    let x = is_place decls a env p s lengths index h0 h1 in
    let y = is_place decls a env p t lengths index h2 h3 in
    four_lines a env s t (plain (At p s)) (plain (At p t)) (strictly_from a env p s t x y (λ lt. means x.k y.k lt y.within) (λ lt. means y.k x.k lt x.within))

pub rising_back : (decls : List Decl) (p : ArrayId) (s t : Term) → IsTrue (is_index decls p) → IsSound decls (Rising p) (pair_instance (OrderedLine (order true true)) (entry_of decls p s) (entry_of decls p t))
rising_back decls p s t index a env lengths means h =
    let x = is_place decls a env p s lengths index (h 0 none (lit< tt)) (h 1 none (lit< tt)) in
    let y = is_place decls a env p t lengths index (h 2 none (lit< tt)) (h 3 none (lit< tt)) in
    let lt = less_to a env (plain (At p s)) (plain (At p t)) (h 4 none (lit< tt)) in
    let xs = x.here in
    let ys = y.here in
    let xv = x.value in
    let yv = y.value in
    let values : at (list_of a.lists p) x.k <ℤ at (list_of a.lists p) y.k = omega (arith, ints) in
    let k = rising_values (list_of a.lists p) x.k y.k means x.within y.within values in
    one a env (less s t) (less_from a env s t (omega (arith, ints)))

pub strict_forth_weak : (decls : List Decl) (p : ArrayId) (s t : Term) → IsTrue (is_index decls p) → IsSound decls (Strict p) (pair_instance (OrderedLine (order false false)) (entry_of decls p s) (entry_of decls p t))
strict_forth_weak decls p s t index a env lengths means h =
    let lines = strict_lines decls a env p s t lengths index means (h 0 none (lit< tt)) (h 1 none (lit< tt)) (h 2 none (lit< tt)) (h 3 none (lit< tt)) in
    one a env (at_most (plain (At p s)) (plain (At p t))) (lines.weak_forth (h 4 none (lit< tt)))

pub strict_back_strict : (decls : List Decl) (p : ArrayId) (s t : Term) → IsTrue (is_index decls p) → IsSound decls (Strict p) (pair_instance (OrderedLine (order true true)) (entry_of decls p s) (entry_of decls p t))
strict_back_strict decls p s t index a env lengths means h =
    let lines = strict_lines decls a env p s t lengths index means (h 0 none (lit< tt)) (h 1 none (lit< tt)) (h 2 none (lit< tt)) (h 3 none (lit< tt)) in
    one a env (less s t) (lines.strict_back (h 4 none (lit< tt)))

pub strict_forth : (decls : List Decl) (p : ArrayId) (s t : Term) → IsTrue (is_index decls p) → IsSound decls (Strict p) (pair_instance (OrderedLine (order true false)) (entry_of decls p s) (entry_of decls p t))
strict_forth decls p s t index a env lengths means h =
    let lines = strict_lines decls a env p s t lengths index means (h 0 none (lit< tt)) (h 1 none (lit< tt)) (h 2 none (lit< tt)) (h 3 none (lit< tt)) in
    one a env (less (plain (At p s)) (plain (At p t))) (lines.strict_forth (h 4 none (lit< tt)))

pub strict_back : (decls : List Decl) (p : ArrayId) (s t : Term) → IsTrue (is_index decls p) → IsSound decls (Strict p) (pair_instance (OrderedLine (order false true)) (entry_of decls p s) (entry_of decls p t))
strict_back decls p s t index a env lengths means h =
    let lines = strict_lines decls a env p s t lengths index means (h 0 none (lit< tt)) (h 1 none (lit< tt)) (h 2 none (lit< tt)) (h 3 none (lit< tt)) in
    one a env (at_most s t) (lines.weak_back (h 4 none (lit< tt)))

pub injective_sound : (decls : List Decl) (f : ArrayId) (s t : Term) → IsTrue (is_index decls f) → IsSound decls (Injective f) (pair_instance InjectiveLine (entry_of decls f s) (entry_of decls f t))
injective_sound decls f s t index a env lengths means h =
    let x = is_place decls a env f s lengths index (h 0 none (lit< tt)) (h 1 none (lit< tt)) in
    let y = is_place decls a env f t lengths index (h 2 none (lit< tt)) (h 3 none (lit< tt)) in
    let same = equal_to a env (plain (At f s)) (plain (At f t)) (h 4 none (lit< tt)) (h 5 none (lit< tt)) in
    let k = means x.k y.k x.within y.within (sym x.value ∙ same ∙ y.value) in
    equal_from a env s t (x.here ∙ ap pos k ∙ sym y.here)

-- an entry of f at a place in the segment from p[u] to p[u+1]
pub record IsInSegment (a : Lists) (env : List Binding) (f p : ArrayId) (t u : Term) : Type 0 where
  pub place : IsPlace a env f t
  pub start : IsPlace a env p u
  pub inside : InSegment (list_of a.lists p) start.k place.k

in_segment : (decls : List Decl) (a : Lists) (env : List Binding) (f p : ArrayId) (t u : Term) → IndexLengths decls a → IsTrue (is_index decls f) → IsTrue (is_index decls p) → AllHold a env (seg (segment_of decls p u) (entry_of decls f t)) → IsInSegment a env f p t u
in_segment decls a env f p t u lengths index by h =
    let x = is_place decls a env f t lengths index (h 2 none (lit< tt)) (h 3 none (lit< tt)) in
    let y = is_place decls a env p u lengths by (h 4 none (lit< tt)) (h 5 none (lit< tt)) in
    let z = is_place decls a env p (next u) lengths by (h 6 none (lit< tt)) (h 7 none (lit< tt)) in
    let low = at_most_to a env (plain (At p u)) t (h 0 none (lit< tt)) in
    let high = less_to a env t (plain (At p (next u))) (h 1 none (lit< tt)) in
    let xs = x.here in
    let ys = y.here in
    let zs = z.here in
    let yv = y.value in
    let zv = z.value in
    let after = next_value a env u in
    let k : z.k ≡ y.k + 1 = omega (arith, ints) in
    let both : y.k + 1 < length (list_of a.lists p) = subst (λ n. n < length (list_of a.lists p)) k z.within in
    let stop : term_value a env (plain (At p (next u))) ≡ at (list_of a.lists p) (y.k + 1) = zv ∙ ap (at (list_of a.lists p)) k in
    record {
      place = x;
      start = y;
      inside = record { both = both; from = omega (arith, ints); below = omega (arith, ints) };
    }

left : {X : Type 0} (P : X → Type 0) (xs ys : List X) → All P (xs ++ ys) → All P xs
left P [] ys h = All-nil P
left P (x ∷ xs) ys h = All-cons P x xs (All-head P x (xs ++ ys) h) (left P xs ys (All-tail P x (xs ++ ys) h))

right : {X : Type 0} (P : X → Type 0) (xs ys : List X) → All P (xs ++ ys) → All P ys
right P [] ys h = h
right P (x ∷ xs) ys h = right P xs ys (All-tail P x (xs ++ ys) h)

sorted_lines : (decls : List Decl) (a : Lists) (env : List Binding) (f p : ArrayId) (s t u : Term) → IndexLengths decls a → IsTrue (is_index decls f) → IsTrue (is_index decls p) → Means a (Sorted f p) → AllHold a env (seg (segment_of decls p u) (entry_of decls f s)) → AllHold a env (seg (segment_of decls p u) (entry_of decls f t)) → FourLines a env s t (plain (At f s)) (plain (At f t))
sorted_lines decls a env f p s t u lengths index by means hs ht =
    let x = in_segment decls a env f p s u lengths index by hs in
    let y = in_segment decls a env f p t u lengths index by ht in
    let xs = x.start.here in
    let ys = y.start.here in
    let same : y.start.k ≡ x.start.k = omega (arith, ints) in
    let there : InSegment (list_of a.lists p) x.start.k y.place.k = subst (λ i. InSegment (list_of a.lists p) i y.place.k) same y.inside in
    four_lines a env s t (plain (At f s)) (plain (At f t)) (strictly_from a env f s t x.place y.place (λ lt. means x.start.k x.place.k y.place.k x.inside there lt y.place.within) (λ lt. means x.start.k y.place.k x.place.k there x.inside lt x.place.within))

-- the premises of a line for `sorted`, apart
pub record SortedPremises (decls : List Decl) (a : Lists) (env : List Binding) (f p : ArrayId) (s t u : Term) (d : Diff) : Type 0 where
  pub first : AllHold a env (seg (segment_of decls p u) (entry_of decls f s))
  pub second : AllHold a env (seg (segment_of decls p u) (entry_of decls f t))
  pub last : Holds a env d

sorted_premises : (decls : List Decl) (a : Lists) (env : List Binding) (f p : ArrayId) (s t u : Term) (d : Diff) → AllHold a env (seg (segment_of decls p u) (entry_of decls f s) ++ seg (segment_of decls p u) (entry_of decls f t) ++ d ∷ []) → SortedPremises decls a env f p s t u d
sorted_premises decls a env f p s t u d h =
    let one_seg = seg (segment_of decls p u) (entry_of decls f s) in
    let other = seg (segment_of decls p u) (entry_of decls f t) in
    let segs = left (Holds a env) (one_seg ++ other) (d ∷ []) h in
    record {
      first = left (Holds a env) one_seg other segs;
      second = right (Holds a env) one_seg other segs;
      last = All-head (Holds a env) d [] (right (Holds a env) (one_seg ++ other) (d ∷ []) h);
    }

pub sorted_strict_forth : (decls : List Decl) (f p : ArrayId) (s t u : Term) → IsTrue (is_index decls f) → IsTrue (is_index decls p) → IsSound decls (Sorted f p) (sorted_instance (order true false) (entry_of decls f s) (entry_of decls f t) (segment_of decls p u))
sorted_strict_forth decls f p s t u index by a env lengths means h =
    let given = sorted_premises decls a env f p s t u (less s t) h in
    let lines = sorted_lines decls a env f p s t u lengths index by means given.first given.second in
    one a env (less (plain (At f s)) (plain (At f t))) (lines.strict_forth given.last)

pub sorted_forth : (decls : List Decl) (f p : ArrayId) (s t u : Term) → IsTrue (is_index decls f) → IsTrue (is_index decls p) → IsSound decls (Sorted f p) (sorted_instance (order false false) (entry_of decls f s) (entry_of decls f t) (segment_of decls p u))
sorted_forth decls f p s t u index by a env lengths means h =
    let given = sorted_premises decls a env f p s t u (at_most s t) h in
    let lines = sorted_lines decls a env f p s t u lengths index by means given.first given.second in
    one a env (at_most (plain (At f s)) (plain (At f t))) (lines.weak_forth given.last)

pub sorted_back : (decls : List Decl) (f p : ArrayId) (s t u : Term) → IsTrue (is_index decls f) → IsTrue (is_index decls p) → IsSound decls (Sorted f p) (sorted_instance (order false true) (entry_of decls f s) (entry_of decls f t) (segment_of decls p u))
sorted_back decls f p s t u index by a env lengths means h =
    let given = sorted_premises decls a env f p s t u (at_most (plain (At f s)) (plain (At f t))) h in
    let lines = sorted_lines decls a env f p s t u lengths index by means given.first given.second in
    one a env (at_most s t) (lines.weak_back given.last)

pub sorted_strict_back : (decls : List Decl) (f p : ArrayId) (s t u : Term) → IsTrue (is_index decls f) → IsTrue (is_index decls p) → IsSound decls (Sorted f p) (sorted_instance (order true true) (entry_of decls f s) (entry_of decls f t) (segment_of decls p u))
sorted_strict_back decls f p s t u index by a env lengths means h =
    let given = sorted_premises decls a env f p s t u (less (plain (At f s)) (plain (At f t))) h in
    let lines = sorted_lines decls a env f p s t u lengths index by means given.first given.second in
    one a env (less s t) (lines.strict_back given.last)

pub below_sound : (decls : List Decl) (f p : ArrayId) (s u : Term) → IsTrue (is_index decls f) → IsTrue (is_index decls p) → IsSound decls (Below f p) (limit_instance true (entry_of decls f s) (segment_of decls p u))
below_sound decls f p s u index by a env lengths means h =
    let x = in_segment decls a env f p s u lengths index by h in
    let m = means x.start.k x.place.k x.inside x.place.within in
    let value = x.place.value in
    let here = x.start.here in
    one a env (less (plain (At f s)) u) (less_from a env (plain (At f s)) u (omega (arith, ints)))

pub upto_sound : (decls : List Decl) (f p : ArrayId) (s u : Term) → IsTrue (is_index decls f) → IsTrue (is_index decls p) → IsSound decls (Upto f p) (limit_instance false (entry_of decls f s) (segment_of decls p u))
upto_sound decls f p s u index by a env lengths means h =
    let x = in_segment decls a env f p s u lengths index by h in
    let m = means x.start.k x.place.k x.inside x.place.within in
    let value = x.place.value in
    let here = x.start.here in
    one a env (at_most (plain (At f s)) u) (at_most_from a env (plain (At f s)) u (omega (arith, ints)))

pub diagonal_sound : (decls : List Decl) (d f p : ArrayId) (t : Term) → IsTrue (is_index decls d) → IsTrue (is_index decls p) → IsSound decls (Diagonal d f p) (diagonal_instance decls f p (entry_of decls d t))
diagonal_sound decls d f p t index by a env lengths means h =
    let x = is_place decls a env d t lengths index (h 0 none (lit< tt)) (h 1 none (lit< tt)) in
    let y = is_place decls a env p t lengths by (h 2 none (lit< tt)) (h 3 none (lit< tt)) in
    let z = is_place decls a env p (next t) lengths by (h 4 none (lit< tt)) (h 5 none (lit< tt)) in
    let m = means x.k x.within in
    let xs = x.here in
    let ys = y.here in
    let zs = z.here in
    let after = next_value a env t in
    let first : y.k ≡ x.k = omega (arith, ints) in
    let second : z.k ≡ x.k + 1 = omega (arith, ints) in
    let value = x.value in
    let start : term_value a env (plain (At p t)) ≡ at (list_of a.lists p) x.k = y.value ∙ ap (at (list_of a.lists p)) first in
    let stop : term_value a env (plain (At p (next t))) ≡ at (list_of a.lists p) (x.k + 1) = z.value ∙ ap (at (list_of a.lists p)) second in
    let from = m.from in
    let below = m.below in
    let back : term_value a env (plain (At f (plain (At d t)))) ≡ term_value a env t =
    entry_value a env f (plain (At d t)) ∙ ap (word_at (list_of a.lists f)) value ∙ m.here ∙ sym x.here in
    let low = at_most_from a env (plain (At p t)) (plain (At d t)) (omega (arith, ints)) in
    let high = less_from a env (plain (At d t)) (plain (At p (next t))) (omega (arith, ints)) in
    let rest = equal (plain (At f (plain (At d t)))) t in
    All-cons (Holds a env) (at_most (plain (At p t)) (plain (At d t))) (less (plain (At d t)) (plain (At p (next t))) ∷ rest) low
    (All-cons (Holds a env) (less (plain (At d t)) (plain (At p (next t)))) rest high (equal_from a env (plain (At f (plain (At d t)))) t back))

pub before_sound : (decls : List Decl) (f g : ArrayId) (t : Term) → IsTrue (is_index decls f) → IsSound decls (Before f g) (before_instance decls g (entry_of decls f t))
before_sound decls f g t index a env lengths means h =
    let x = is_place decls a env f t lengths index (h 0 none (lit< tt)) (h 1 none (lit< tt)) in
    let m = means x.k x.within in
    let value = x.value in
    let other : term_value a env (plain (At g t)) ≡ at (list_of a.lists g) x.k = entry_value a env g t ∙ ap (word_at (list_of a.lists g)) x.here in
    one a env (at_most (plain (At f t)) (plain (At g t))) (at_most_from a env (plain (At f t)) (plain (At g t)) (omega (arith, ints)))
