-- What a nest of the loop language meets: its properties name index arrays, and its constants are small.
use Rattle.std.proofs.Common.{ℕ, ℤ, pos, ◌≤◌, ◌^◌, ◌≡◌, IsTrue, Bool, ◌&&◌, nat_le, List, [], ◌∷◌, ◌++◌, true, false, refl, subst, sym, rules, tests, arith, unsigned_abs}
use Rattle.std.specs.List.{All, Contains, flat_map, list_all}
use Rattle.std.proofs.lemmas.Int.{ints}
use Rattle.std.proofs.lemmas.List.Elements.{All-nil, All-cons, All-head, All-tail, All-weaker, All-contains}
use Rattle.wave_base.specs.declared.types.ArrayId.{ArrayId}
use Rattle.loop_core.specs.declared.decl.Decl.{Decl}
use Rattle.loop_core.specs.declared.decl.PropDecl.{PropDecl}
use Rattle.loop_core.specs.declared.decl.PropKind.{PropKind}
use Rattle.loop_core.specs.declared.decl.PropKind.TheVariants.{Range, Rising, Strict, Injective, Sorted, Below, Upto, Diagonal, Before}
use Rattle.loop_core.specs.declared.decl.Size.TheVariants.{N, NPlusOne}
use Rattle.loop_core.specs.declared.nest.Nest.{Nest}
use Rattle.loop_core.specs.declared.nest.Term.{Term, roll-Term, map-Term}
use Rattle.loop_core.specs.declared.nest.Atom.{Atom, roll-Atom, map-Atom}
use Rattle.loop_core.specs.declared.nest.Atom as ATOM
use Rattle.loop_core.specs.declared.nest.Atom.TheOpen.{Atom-F, Term-F}
use Rattle.loop_core.specs.declared.nest.Atom.TheFolds.{fold-Atom, ind-Term}
use Rattle.loop_core.specs.IsNest.{IsNest, names_arrays, bounds_of, is_bound, is_constant, has_constants, has_size, both_same}
use Rattle.loop_core.specs.Shape.{body_lines, line_terms, term_constants, constants_step}
use Rattle.loop_core.specs.Sizes.{is_index}
use Rattle.uf_constraints.specs.Constants.{atom_within, term_within, TermsWithin}
use Rattle.index_props.specs.Sound.{NamesIndexes, AllNameIndexes}
use Rattle.index_props.specs.Within.{BoundsWithin, AllBoundsWithin}

both : (a b : Bool) → IsTrue (a && b) → IsTrue a × IsTrue b
both true b h = (refl, h)
both false b h = absurd (cc)

-- a test of all elements
all_true : {X : Type 0} (f : X → Bool) (xs : List X) → IsTrue (list_all f xs) → All (λ x. IsTrue (f x)) xs
all_true f [] h = All-nil (λ x. IsTrue (f x))
all_true f (x ∷ xs) h = let b = both (f x) (list_all f xs) h in All-cons (λ x. IsTrue (f x)) x xs b.0 (all_true f xs b.1)

all_of : {X : Type 0} (f : X → Bool) (xs ys : List X) → IsTrue (list_all f (xs ++ ys)) → IsTrue (list_all f xs) × IsTrue (list_all f ys)
all_of f [] ys h = (refl, h)
all_of f (x ∷ xs) ys h =
    let b = both (f x) (list_all f (xs ++ ys)) h in
    let r = all_of f xs ys b.1 in
    (rw b.0 r.0, r.1)

all_flat : {X Y : Type 0} (f : X → Bool) (g : Y → List X) (ys : List Y) → IsTrue (list_all f (flat_map g ys)) → All (λ y. IsTrue (list_all f (g y))) ys
all_flat f g [] h = All-nil (λ y. IsTrue (list_all f (g y)))
all_flat f g (y ∷ ys) h =
    let b = all_of f (g y) (flat_map g ys) h in
    All-cons (λ y. IsTrue (list_all f (g y))) y ys b.0 (all_flat f g ys b.1)

-- Constants.

constant_small : (z : ℤ) → IsTrue (is_constant z) → unsigned_abs z ≤ 2 ^ 21
constant_small z h = grind (arith, ints, tests, h)

-- the constants of an atom, as those of a term
abbrev atom_constants : Atom → List ℤ
atom_constants = fold-Atom (List ℤ) (List ℤ) constants_step (λ t. t.atom ++ t.plus ∷ [])

abbrev AtomIsFine : Atom → Type 0
AtomIsFine a = IsTrue (list_all is_constant (atom_constants a)) → IsTrue (atom_within (2 ^ 21) a)

abbrev TermIsFine : Term → Type 0
TermIsFine t = IsTrue (has_constants t) → IsTrue (term_within (2 ^ 21) t) × IsTrue (atom_within (2 ^ 21) t.atom) × (unsigned_abs t.plus ≤ 2 ^ 21)

at_step : (f : ArrayId) (t : Term) → TermIsFine t → AtomIsFine (roll-Atom (Atom-F.At f t))
at_step f t fine h =
    let a : Atom = roll-Atom (Atom-F.At f t) in
    let same : atom_within (2 ^ 21) a ≡ term_within (2 ^ 21) t = search (rules, ATOM.TheFolds.the_lemmas) in
    let inner : atom_constants a ≡ term_constants t = search (rules, ATOM.TheFolds.the_lemmas) in
    subst IsTrue (sym same) (fine (subst (λ (l : List ℤ). IsTrue (list_all is_constant l)) inner h)).0

term_step : (t : Term-F Atom Term) → AtomIsFine t.atom → TermIsFine (roll-Term t)
term_step t fine h =
    let same : term_within (2 ^ 21) (roll-Term t) ≡ (atom_within (2 ^ 21) t.atom && nat_le (unsigned_abs t.plus) (2 ^ 21)) = search (rules, ATOM.TheFolds.the_lemmas) in
    let all : term_constants (roll-Term t) ≡ atom_constants t.atom ++ t.plus ∷ [] = search (rules, ATOM.TheFolds.the_lemmas) in
    let atom : (roll-Term t).atom ≡ t.atom = search (rules, ATOM.TheFolds.the_lemmas) in
    let plus : (roll-Term t).plus ≡ t.plus = search (rules, ATOM.TheFolds.the_lemmas) in
    let two = all_of is_constant (atom_constants t.atom) (t.plus ∷ []) (subst (λ (l : List ℤ). IsTrue (list_all is_constant l)) all h) in
    let here = constant_small t.plus (both (is_constant t.plus) true two.1).0 in
    let inner = fine two.0 in
    let le : IsTrue (nat_le (unsigned_abs t.plus) (2 ^ 21)) = search (rules, tests, here) in (
      subst IsTrue (sym same) (rw inner le),
      subst (λ (a : Atom). IsTrue (atom_within (2 ^ 21) a)) (sym atom) inner,
      subst (λ (z : ℤ). unsigned_abs z ≤ 2 ^ 21) (sym plus) here,
    )

atom_from : {A B : Type 0} (pa : A → Atom) (pb : B → Term) → ((b : B) → TermIsFine (pb b)) → (y : Atom-F A B) (x : Atom-F Atom Term) → map-Atom A B Atom Term pa pb y ≡ x → AtomIsFine (roll-Atom x)
atom_from pa pb fine (Atom-F.At f e) x is = subst (λ z. AtomIsFine (roll-Atom z)) is (at_step f (pb e) (fine e))
atom_from pa pb fine Atom-F.Zero x is = subst (λ z. AtomIsFine (roll-Atom z)) is (λ h. search (rules, ATOM.TheFolds.the_lemmas))
atom_from pa pb fine Atom-F.N x is = subst (λ z. AtomIsFine (roll-Atom z)) is (λ h. search (rules, ATOM.TheFolds.the_lemmas))
atom_from pa pb fine Atom-F.Nnz x is = subst (λ z. AtomIsFine (roll-Atom z)) is (λ h. search (rules, ATOM.TheFolds.the_lemmas))
atom_from pa pb fine (Atom-F.Var v) x is = subst (λ z. AtomIsFine (roll-Atom z)) is (λ h. search (rules, ATOM.TheFolds.the_lemmas))

term_from : {A B : Type 0} (pa : A → Atom) (pb : B → Term) → ((a : A) → AtomIsFine (pa a)) → (y : Term-F A B) (x : Term-F Atom Term) → map-Term A B Atom Term pa pb y ≡ x → TermIsFine (roll-Term x)
term_from {A} {B} pa pb fine y x is =
    subst (λ z. TermIsFine (roll-Term z)) is (term_step (map-Term A B Atom Term pa pb y) (fine y.atom))

terms_fine : (t : Term) → TermIsFine t
terms_fine =
    ind-Term AtomIsFine TermIsFine (λ x y is. atom_from (λ e. e.0) (λ e. e.0) (λ e. e.1) y x is) (λ x y is. term_from (λ e. e.0) (λ e. e.0) (λ e. e.1) y x is)

pub nest-terms : (nest : Nest) → IsNest nest → TermsWithin (2 ^ 21) (flat_map (λ l. line_terms l.form) (body_lines nest))
nest-terms nest h =
    let terms = flat_map (λ l. line_terms l.form) (body_lines nest) in
    All-weaker (λ t. IsTrue (has_constants t)) (λ t. IsTrue (term_within (2 ^ 21) t)) (λ t i. (terms_fine t i).0) terms (all_true has_constants terms h.constants)

pub nest-atoms : (nest : Nest) → IsNest nest → All (λ t. IsTrue (atom_within (2 ^ 21) t.atom)) (flat_map (λ l. line_terms l.form) (body_lines nest))
nest-atoms nest h =
    let terms = flat_map (λ l. line_terms l.form) (body_lines nest) in
    All-weaker (λ t. IsTrue (has_constants t)) (λ t. IsTrue (atom_within (2 ^ 21) t.atom)) (λ t i. (terms_fine t i).1) terms (all_true has_constants terms h.constants)

-- Properties.

kind_bounds : (kind : PropKind) → IsTrue (list_all has_constants (bounds_of kind)) → BoundsWithin kind
kind_bounds (Range f lo hi) h =
    let first = both (has_constants lo) (list_all has_constants (hi ∷ [])) h in
    let second = both (has_constants hi) true first.1 in
    ((terms_fine lo first.0).2, (terms_fine hi second.0).2)
kind_bounds (Rising p) h = tt
kind_bounds (Strict p) h = tt
kind_bounds (Injective f) h = tt
kind_bounds (Sorted f p) h = tt
kind_bounds (Below f p) h = tt
kind_bounds (Upto f p) h = tt
kind_bounds (Diagonal d f p) h = tt
kind_bounds (Before f g) h = tt

pub nest-bounds : (nest : Nest) → IsNest nest → AllBoundsWithin nest.props
nest-bounds nest h =
    All-weaker (λ p. IsTrue (list_all has_constants (bounds_of p.kind))) (λ p. BoundsWithin p.kind) (λ p i. kind_bounds p.kind i) nest.props (all_flat has_constants (λ p. bounds_of p.kind) nest.props h.bounds)

kind_names : (decls : List Decl) (kind : PropKind) → IsTrue (names_arrays decls kind) → NamesIndexes decls kind
kind_names decls (Range f lo hi) h = let a = both (is_index decls f && is_bound lo) (is_bound hi) h in let b = both (is_index decls f) (is_bound lo) a.0 in (b.0, b.1, a.1)
kind_names decls (Rising p) h = h
kind_names decls (Strict p) h = h
kind_names decls (Injective f) h = h
kind_names decls (Sorted f p) h = both (is_index decls f) (is_index decls p) (both (is_index decls f && is_index decls p) (has_size decls p NPlusOne) h).0
kind_names decls (Below f p) h = both (is_index decls f) (is_index decls p) (both (is_index decls f && is_index decls p) (has_size decls p NPlusOne) h).0
kind_names decls (Upto f p) h = both (is_index decls f) (is_index decls p) (both (is_index decls f && is_index decls p) (has_size decls p NPlusOne) h).0
kind_names decls (Diagonal d f p) h =
    let a = both (is_index decls d && is_index decls f && is_index decls p && has_size decls d N) (has_size decls p NPlusOne) h in
    let b = both (is_index decls d && is_index decls f && is_index decls p) (has_size decls d N) a.0 in
    let e = both (is_index decls d && is_index decls f) (is_index decls p) b.0 in
    let g = both (is_index decls d) (is_index decls f) e.0 in
    (g.0, g.1, e.1)
kind_names decls (Before f g) h = both (is_index decls f) (is_index decls g) (search (rules, h))

pub nest-names : (nest : Nest) → IsNest nest → AllNameIndexes nest.decls nest.props
nest-names nest h =
    All-weaker (λ p. IsTrue (names_arrays nest.decls p.kind)) (λ p. NamesIndexes nest.decls p.kind) (λ p i. kind_names nest.decls p.kind i) nest.props (all_true (λ p. names_arrays nest.decls p.kind) nest.props h.properties)
