-- Equal atoms, and the places of atoms in a list.
use Rattle.std.proofs.Common.{ℕ, ℤ, zero, suc, ◌<◌, ◌≡◌, ◌⊎◌, inl, inr, ◌==◌, ◌&&◌, ◌||◌, Bool, true, false, List, [], ◌∷◌, length, slice_index_or, refl, subst, sym, ap, ◌∙◌, arith, rules, slice_set, get_or-set_same, get_or-set_other, replicate}
use Rattle.std.proofs.lemmas.List.{get_or_default, get_or-replicate, length-replicate, length-set}
use Rattle.std.specs.List.{Contains}
use Rattle.std.specs.Ordering.{int_eq}
use Rattle.std.proofs.lemmas.Bool.{eqb-true, eq-eqb, cases_eq}
use Rattle.std.proofs.lemmas.Bool.Decides.{Decides-int_eq}
use Rattle.wave_base.specs.declared.types.ArrayId.{ArrayId}
use Rattle.loop_core.specs.Binding.{same_variable, same_side}
use Rattle.loop_core.specs.declared.nest.VarId.{VarId}
use Rattle.loop_core.specs.declared.nest.Side.{Side}
use Rattle.loop_core.specs.declared.nest.Side.TheVariants.{Own, First, Second}
use Rattle.loop_core.specs.declared.nest.Term.{Term, roll-Term, map-Term}
use Rattle.loop_core.specs.declared.nest.Atom.{Atom, out-Atom, roll-Atom, map-Atom, roll-out-Atom}
use Rattle.loop_core.specs.declared.nest.Atom as ATOM
use Rattle.loop_core.specs.declared.nest.Atom.TheVariants.{Zero}
use Rattle.loop_core.specs.declared.nest.Atom.TheOpen.{Atom-F, Term-F}
use Rattle.loop_core.specs.declared.nest.Atom.TheFolds.{ind-Atom, ind-Term}
use Rattle.uf_constraints.specs.Same.{same_atom, same_term, same_open, is_listed}
use Rattle.bound_ways.specs.Places.{place_in, atom_at, AreFirst}

both : (a b : Bool) → (a && b) ≡ true → (a ≡ true) × (b ≡ true)
both true b h = (refl, h)
both false b h = absurd (cc)

and : (a b : Bool) → a ≡ true → b ≡ true → (a && b) ≡ true
and a b g h = rw (g, h) refl

side_same : (s : Side) → same_side s s ≡ true
side_same Own = refl
side_same First = refl
side_same Second = refl

side_is : (s t : Side) → same_side s t ≡ true → s ≡ t
side_is Own Own h = refl
side_is Own First h = absurd (cc)
side_is Own Second h = absurd (cc)
side_is First Own h = absurd (cc)
side_is First First h = refl
side_is First Second h = absurd (cc)
side_is Second Own h = absurd (cc)
side_is Second First h = absurd (cc)
side_is Second Second h = refl

variable_same : (v : VarId) → same_variable v v ≡ true
variable_same v = and (v.line == v.line) (same_side v.side v.side) (eq-eqb v.line v.line refl) (side_same v.side)

variable_is : (v w : VarId) → same_variable v w ≡ true → v ≡ w
variable_is v w h =
    let p = both (v.line == w.line) (same_side v.side w.side) h in
    let line : v.line ≡ w.line = eqb-true v.line w.line p.0 in
    let side : v.side ≡ w.side = side_is v.side w.side p.1 in
    ap (λ (n : ℕ). let x : VarId = record { line = n; side = v.side } in x) line ∙ ap (λ (s : Side). let x : VarId = record { line = w.line; side = s } in x) side

array_is : (f g : ArrayId) → (f.0 == g.0) ≡ true → f ≡ g
array_is f g h = ap (λ (n : ℕ). let a : ArrayId = record { 0 = n } in a) (eqb-true f.0 g.0 h)

-- an atom is the same as itself, and as no other
abbrev AtomSays : Atom → Type 0
AtomSays a = (same_atom a a ≡ true) × ((b : Atom) → same_atom a b ≡ true → a ≡ b)

abbrev TermSays : Term → Type 0
TermSays t = (same_term t t ≡ true) × ((u : Term) → same_term t u ≡ true → t ≡ u)

at_is : (f : ArrayId) (t : Term) → ((u : Term) → same_term t u ≡ true → t ≡ u) → (y : Atom-F Atom Term) → same_open (Atom-F.At f (same_term t)) y ≡ true → roll-Atom (Atom-F.At f t) ≡ roll-Atom y
at_is f t h Atom-F.Zero e = absurd (cc)
at_is f t h Atom-F.N e = absurd (cc)
at_is f t h Atom-F.Nnz e = absurd (cc)
at_is f t h (Atom-F.Var v) e = absurd (cc)
at_is f t h (Atom-F.At g u) e =
    let p = both (f.0 == g.0) (same_term t u) e in
    ap (λ (g : ArrayId). roll-Atom (Atom-F.At g t)) (array_is f g p.0) ∙ ap (λ (u : Term). roll-Atom (Atom-F.At g u)) (h u p.1)

var_is : (v : VarId) (y : Atom-F Atom Term) → same_open (Atom-F.Var v) y ≡ true → roll-Atom (Atom-F.Var v) ≡ roll-Atom y
var_is v Atom-F.Zero e = absurd (cc)
var_is v Atom-F.N e = absurd (cc)
var_is v Atom-F.Nnz e = absurd (cc)
var_is v (Atom-F.Var w) e = ap (λ (w : VarId). roll-Atom (Atom-F.Var w)) (variable_is v w e)
var_is v (Atom-F.At g u) e = absurd (cc)

zero_is : (y : Atom-F Atom Term) → same_open Atom-F.Zero y ≡ true → roll-Atom Atom-F.Zero ≡ roll-Atom y
zero_is Atom-F.Zero e = refl
zero_is Atom-F.N e = absurd (cc)
zero_is Atom-F.Nnz e = absurd (cc)
zero_is (Atom-F.Var v) e = absurd (cc)
zero_is (Atom-F.At g u) e = absurd (cc)

n_is : (y : Atom-F Atom Term) → same_open Atom-F.N y ≡ true → roll-Atom Atom-F.N ≡ roll-Atom y
n_is Atom-F.Zero e = absurd (cc)
n_is Atom-F.N e = refl
n_is Atom-F.Nnz e = absurd (cc)
n_is (Atom-F.Var v) e = absurd (cc)
n_is (Atom-F.At g u) e = absurd (cc)

nnz_is : (y : Atom-F Atom Term) → same_open Atom-F.Nnz y ≡ true → roll-Atom Atom-F.Nnz ≡ roll-Atom y
nnz_is Atom-F.Zero e = absurd (cc)
nnz_is Atom-F.N e = absurd (cc)
nnz_is Atom-F.Nnz e = refl
nnz_is (Atom-F.Var v) e = absurd (cc)
nnz_is (Atom-F.At g u) e = absurd (cc)

-- a test that opens the second atom, as a fact about that atom
module _ (x : Atom-F Atom Term) (test : Atom-F (Atom → Bool) (Term → Bool)) (step : (b : Atom) → same_atom (roll-Atom x) b ≡ same_open test (out-Atom b)) (is : (y : Atom-F Atom Term) → same_open test y ≡ true → roll-Atom x ≡ roll-Atom y) where
  says_is : (b : Atom) → same_atom (roll-Atom x) b ≡ true → roll-Atom x ≡ b
  says_is b h = is (out-Atom b) (sym (step b) ∙ h) ∙ roll-out-Atom b

at_says : (f : ArrayId) (t : Term) → TermSays t → AtomSays (roll-Atom (Atom-F.At f t))
at_says f t h =
    let step : (b : Atom) → same_atom (roll-Atom (Atom-F.At f t)) b ≡ same_open (Atom-F.At f (same_term t)) (out-Atom b) = λ b. search (rules, ATOM.TheFolds.the_lemmas) in
    let itself : same_atom (roll-Atom (Atom-F.At f t)) (roll-Atom (Atom-F.At f t)) ≡ ((f.0 == f.0) && same_term t t) = search (rules, ATOM.TheFolds.the_lemmas) in
    (itself ∙ and (f.0 == f.0) (same_term t t) (eq-eqb f.0 f.0 refl) h.0, says_is (Atom-F.At f t) (Atom-F.At f (same_term t)) step (at_is f t h.1))

var_says : (v : VarId) → AtomSays (roll-Atom (Atom-F.Var v))
var_says v =
    let step : (b : Atom) → same_atom (roll-Atom (Atom-F.Var v)) b ≡ same_open (Atom-F.Var v) (out-Atom b) = λ b. search (rules, ATOM.TheFolds.the_lemmas) in
    let itself : same_atom (roll-Atom (Atom-F.Var v)) (roll-Atom (Atom-F.Var v)) ≡ same_variable v v = search (rules, ATOM.TheFolds.the_lemmas) in
    (itself ∙ variable_same v, says_is (Atom-F.Var v) (Atom-F.Var v) step (var_is v))

zero_says : AtomSays (roll-Atom Atom-F.Zero)
zero_says =
    let step : (b : Atom) → same_atom (roll-Atom Atom-F.Zero) b ≡ same_open Atom-F.Zero (out-Atom b) = λ b. search (rules, ATOM.TheFolds.the_lemmas) in
    let itself : same_atom (roll-Atom Atom-F.Zero) (roll-Atom Atom-F.Zero) ≡ true = search (rules, ATOM.TheFolds.the_lemmas) in
    (itself, says_is Atom-F.Zero Atom-F.Zero step zero_is)

n_says : AtomSays (roll-Atom Atom-F.N)
n_says =
    let step : (b : Atom) → same_atom (roll-Atom Atom-F.N) b ≡ same_open Atom-F.N (out-Atom b) = λ b. search (rules, ATOM.TheFolds.the_lemmas) in
    let itself : same_atom (roll-Atom Atom-F.N) (roll-Atom Atom-F.N) ≡ true = search (rules, ATOM.TheFolds.the_lemmas) in
    (itself, says_is Atom-F.N Atom-F.N step n_is)

nnz_says : AtomSays (roll-Atom Atom-F.Nnz)
nnz_says =
    let step : (b : Atom) → same_atom (roll-Atom Atom-F.Nnz) b ≡ same_open Atom-F.Nnz (out-Atom b) = λ b. search (rules, ATOM.TheFolds.the_lemmas) in
    let itself : same_atom (roll-Atom Atom-F.Nnz) (roll-Atom Atom-F.Nnz) ≡ true = search (rules, ATOM.TheFolds.the_lemmas) in
    (itself, says_is Atom-F.Nnz Atom-F.Nnz step nnz_is)

term_says : (t : Term-F Atom Term) → AtomSays t.atom → TermSays (roll-Term t)
term_says t h =
    let step : (u : Term) → same_term (roll-Term t) u ≡ (same_atom t.atom u.atom && int_eq t.plus u.plus) = λ u. search (rules, ATOM.TheFolds.the_lemmas) in
    let itself : same_term (roll-Term t) (roll-Term t) ≡ (same_atom t.atom t.atom && int_eq t.plus t.plus) = search (rules, ATOM.TheFolds.the_lemmas) in (
      itself ∙ and (same_atom t.atom t.atom) (int_eq t.plus t.plus) h.0 ((Decides-int_eq t.plus t.plus).1 refl),
      λ u e.
          let p = both (same_atom t.atom u.atom) (int_eq t.plus u.plus) (sym (step u) ∙ e) in
          let atom : t.atom ≡ u.atom = h.1 u.atom p.0 in
          let plus : t.plus ≡ u.plus = (Decides-int_eq t.plus u.plus).0 p.1 in
          ap (λ (a : Atom). let x : Term = record { atom = a; plus = t.plus } in x) atom ∙ ap (λ (z : ℤ). let x : Term = record { atom = u.atom; plus = z } in x) plus,
    )

atom_from : {A B : Type 0} (pa : A → Atom) (pb : B → Term) → ((b : B) → TermSays (pb b)) → (y : Atom-F A B) (x : Atom-F Atom Term) → map-Atom A B Atom Term pa pb y ≡ x → AtomSays (roll-Atom x)
atom_from pa pb fine (Atom-F.At f e) x is = subst (λ z. AtomSays (roll-Atom z)) is (at_says f (pb e) (fine e))
atom_from pa pb fine Atom-F.Zero x is = subst (λ z. AtomSays (roll-Atom z)) is zero_says
atom_from pa pb fine Atom-F.N x is = subst (λ z. AtomSays (roll-Atom z)) is n_says
atom_from pa pb fine Atom-F.Nnz x is = subst (λ z. AtomSays (roll-Atom z)) is nnz_says
atom_from pa pb fine (Atom-F.Var v) x is = subst (λ z. AtomSays (roll-Atom z)) is (var_says v)

term_from : {A B : Type 0} (pa : A → Atom) (pb : B → Term) → ((a : A) → AtomSays (pa a)) → (y : Term-F A B) (x : Term-F Atom Term) → map-Term A B Atom Term pa pb y ≡ x → TermSays (roll-Term x)
term_from {A} {B} pa pb fine y x is =
    subst (λ z. TermSays (roll-Term z)) is (term_says (map-Term A B Atom Term pa pb y) (fine y.atom))

atom_says : (a : Atom) → AtomSays a
atom_says =
    ind-Atom AtomSays TermSays (λ x y is. atom_from (λ e. e.0) (λ e. e.0) (λ e. e.1) y x is) (λ x y is. term_from (λ e. e.0) (λ e. e.0) (λ e. e.1) y x is)

pub same-itself : (a : Atom) → same_atom a a ≡ true
same-itself a = (atom_says a).0

pub same-is : (a b : Atom) → same_atom a b ≡ true → a ≡ b
same-is a b h = (atom_says a).1 b h

test_cases : (b : Bool) → (b ≡ true) ⊎ (b ≡ false)
test_cases true = inl refl
test_cases false = inr refl

at-first : (a b : Atom) (bs : List Atom) → same_atom a b ≡ true → place_in (b ∷ bs) a ≡ 0
at-first a b bs h = rw h refl

at-later : (a b : Atom) (bs : List Atom) → same_atom a b ≡ false → place_in (b ∷ bs) a ≡ suc (place_in bs a)
at-later a b bs h = rw h refl

-- a place below the length holds the atom
pub place-is : (u : List Atom) (a : Atom) → place_in u a < length u → atom_at u (place_in u a) ≡ a
place-is [] a h = absurd (omega arith)
place-is (b ∷ bs) a h = elim (test_cases (same_atom a b)) [
  | inl e ↦ rw (at-first a b bs e) (sym (same-is a b e))
  | inr n ↦ (let s = at-later a b bs n in rw s (place-is bs a (let l : suc (place_in bs a) < length (b ∷ bs) = rw s at h in omega arith)))
]

listed-place : (u : List Atom) (a : Atom) (k : ℕ) → k < length u → atom_at u k ≡ a → place_in u a < length u
listed-place [] a k l e = absurd (omega arith)
listed-place (b ∷ bs) a zero l e = let s = at-first a b bs (subst (λ (c : Atom). same_atom a c ≡ true) (sym e) (same-itself a)) in rw s (omega arith)
listed-place (b ∷ bs) a (suc k) l e = elim (test_cases (same_atom a b)) [
  | inl e ↦ (let s = at-first a b bs e in rw s (omega arith))
  | inr n ↦ (let s = at-later a b bs n in let i = listed-place bs a k (omega arith) e in rw s (omega arith))
]

-- a listed atom has a place
pub place-in : (u : List Atom) (a : Atom) → Contains u a → place_in u a < length u
place-in u a h = listed-place u a h.0 h.1 (get-zero u a h.0 h.1 h.2)
  where
    get-zero : (u : List Atom) (a : Atom) (k : ℕ) → k < length u → slice_index_or u k a ≡ a → slice_index_or u k Zero ≡ a
    get-zero [] a k l e = absurd (omega arith)
    get-zero (b ∷ bs) a zero l e = e
    get-zero (b ∷ bs) a (suc k) l e = get-zero bs a k (omega arith) e

pub listed-at : (u : List Atom) (x : ℕ) → x < length u → is_listed u (atom_at u x) ≡ true
listed-at [] x l = absurd (omega arith)
listed-at (b ∷ bs) zero l = rw (same-itself b) refl
listed-at (b ∷ bs) (suc x) l = later (same_atom (atom_at bs x) b) (is_listed bs (atom_at bs x)) (listed-at bs x (omega arith))
  where
    later : (c d : Bool) → d ≡ true → (c || d) ≡ true
    later true d h = refl
    later false d h = h

-- an atom with a place is listed
pub contains-place : (u : List Atom) (a : Atom) → place_in u a < length u → Contains u a
contains-place u a l = (place_in u a, l, get_or_default u (place_in u a) a Zero l ∙ place-is u a l)

-- the place of an atom is that of the atom which stands there
pub first-place : (u : List Atom) (a : Atom) → place_in u a < length u → place_in u (atom_at u (place_in u a)) ≡ place_in u a
first-place u a l = ap (λ (b : Atom). place_in u b) (place-is u a l)

pub first-put : (u : List Atom) (table : List ℕ) (k v : ℕ) → k < length table → AreFirst u table → (v < length u → place_in u (atom_at u v) ≡ v) → AreFirst u (slice_set table k v)
first-put u table k v lt h e i l = elim (cases_eq i k) [
  | inl q ↦ rw q (rw get_or-set_same e)
  | inr ne ↦ rw get_or-set_other (h i (let n = length-set table k v in omega arith))
]

-- a table that knows no place
none_at : (u : List Atom) (n : ℕ) → AreFirst u (replicate n (length u))
none_at u n k within below =
    let there : slice_index_or (replicate n (length u)) k 0 ≡ length u = get_or-replicate n k (length u) 0 (let e = length-replicate n (length u) in omega arith) in
    absurd (omega (arith, below, there))

pub none_first : (u : List Atom) (n : ℕ) (table : List ℕ) → table ≡ replicate n (length u) → AreFirst u table
none_first u n table is = subst (AreFirst u) (sym is) (none_at u n)
