-- The test of equality of atoms and terms is exact.
use Rattle.std.proofs.Common.{IsTrue, ◌↔◌, ℕ, ℤ, ◌≡◌, ◌==◌, ◌&&◌, Bool, true, false, List, [], ◌∷◌, refl, sym, ap, ◌∙◌, subst, rules, arith, zero, suc}
use Rattle.std.specs.Prelude.{◌||◌}
use Rattle.std.specs.List.{Contains}
use Rattle.std.specs.Ordering.{int_eq}
use Rattle.std.proofs.lemmas.Bool.{eqb-true}
use Rattle.std.proofs.lemmas.Bool.Decides.{Decides-int_eq, nat_tests}
use Rattle.std.proofs.lemmas.Map.Views.{Contains-from_any}
use Rattle.wave_base.specs.declared.types.ArrayId.{ArrayId}
use Rattle.loop_core.specs.declared.nest.Side.{Side}
use Rattle.loop_core.specs.declared.nest.Side.TheVariants.{Own, First, Second}
use Rattle.loop_core.specs.declared.nest.VarId.{VarId}
use Rattle.loop_core.specs.declared.nest.Term.{Term, roll-Term, map-Term}
use Rattle.loop_core.specs.declared.nest.Atom.{Atom, out-Atom, roll-Atom, map-Atom, roll-out-Atom}
use Rattle.loop_core.specs.declared.nest.Atom as ATOM
use Rattle.loop_core.specs.declared.nest.Atom.TheOpen.{Atom-F, Term-F}
use Rattle.loop_core.specs.declared.nest.Atom.TheFolds.{ind-Atom, ind-Term}
use Rattle.loop_core.specs.Binding.{same_side, same_variable}
use Rattle.uf_constraints.specs.Same.{same_open, same_atom, same_term, is_listed}

abbrev AtomIs : Atom → Type 0
AtomIs a = ((b : Atom) → same_atom a b ≡ true → a ≡ b) × (same_atom a a ≡ true)

abbrev TermIs : Term → Type 0
TermIs t = ((u : Term) → same_term t u ≡ true → t ≡ u) × (same_term t t ≡ true)

pub both : (a b : Bool) → (a && b) ≡ true → (a ≡ true) × (b ≡ true)
both true b h = (refl, h)
both false b h = absurd (cc)

and_true : (a b : Bool) → a ≡ true → b ≡ true → (a && b) ≡ true
and_true true b g h = h
and_true false b g h = absurd (cc)

same_number : (k : ℕ) → (k == k) ≡ true
same_number k = grind (arith, nat_tests)

pub array_is : (f g : ArrayId) → (f.0 == g.0) ≡ true → f ≡ g
array_is f g h = ap (λ (n : ℕ). let a : ArrayId = record { 0 = n } in a) (eqb-true f.0 g.0 h)

side_is : (a b : Side) → same_side a b ≡ true → a ≡ b
side_is Own Own h = refl
side_is Own First h = absurd (cc)
side_is Own Second h = absurd (cc)
side_is First Own h = absurd (cc)
side_is First First h = refl
side_is First Second h = absurd (cc)
side_is Second Own h = absurd (cc)
side_is Second First h = absurd (cc)
side_is Second Second h = refl

same_side_itself : (a : Side) → same_side a a ≡ true
same_side_itself Own = refl
same_side_itself First = refl
same_side_itself Second = refl

variable_is : (v w : VarId) → same_variable v w ≡ true → v ≡ w
variable_is v w h =
    let two = both (v.line == w.line) (same_side v.side w.side) h in
    ap (λ (l : ℕ). let x : VarId = record { line = l; side = v.side } in x) (eqb-true v.line w.line two.0)
    ∙ ap (λ (s : Side). let x : VarId = record { line = w.line; side = s } in x) (side_is v.side w.side two.1)

at_cases : (f : ArrayId) (t : Term) → TermIs t → (y : Atom-F Atom Term) → same_open (Atom-F.At f (same_term t)) y ≡ true → ◌≡◌ {A = Atom-F Atom Term} (Atom-F.At f t) y
at_cases f t inner (Atom-F.At g u) h =
    let two = both (f.0 == g.0) (same_term t u) h in
    ap (λ (e : ArrayId). let x : Atom-F Atom Term = Atom-F.At e t in x) (array_is f g two.0)
    ∙ ap (λ (e : Term). let x : Atom-F Atom Term = Atom-F.At g e in x) (inner.0 u two.1)
at_cases f t inner Atom-F.Zero h = absurd (cc)
at_cases f t inner Atom-F.N h = absurd (cc)
at_cases f t inner Atom-F.Nnz h = absurd (cc)
at_cases f t inner (Atom-F.Var v) h = absurd (cc)

zero_cases : (y : Atom-F Atom Term) → same_open Atom-F.Zero y ≡ true → ◌≡◌ {A = Atom-F Atom Term} Atom-F.Zero y
zero_cases Atom-F.Zero h = refl
zero_cases Atom-F.N h = absurd (cc)
zero_cases Atom-F.Nnz h = absurd (cc)
zero_cases (Atom-F.Var v) h = absurd (cc)
zero_cases (Atom-F.At f t) h = absurd (cc)

n_cases : (y : Atom-F Atom Term) → same_open Atom-F.N y ≡ true → ◌≡◌ {A = Atom-F Atom Term} Atom-F.N y
n_cases Atom-F.N h = refl
n_cases Atom-F.Zero h = absurd (cc)
n_cases Atom-F.Nnz h = absurd (cc)
n_cases (Atom-F.Var v) h = absurd (cc)
n_cases (Atom-F.At f t) h = absurd (cc)

nnz_cases : (y : Atom-F Atom Term) → same_open Atom-F.Nnz y ≡ true → ◌≡◌ {A = Atom-F Atom Term} Atom-F.Nnz y
nnz_cases Atom-F.Nnz h = refl
nnz_cases Atom-F.Zero h = absurd (cc)
nnz_cases Atom-F.N h = absurd (cc)
nnz_cases (Atom-F.Var v) h = absurd (cc)
nnz_cases (Atom-F.At f t) h = absurd (cc)

var_cases : (v : VarId) (y : Atom-F Atom Term) → same_open (Atom-F.Var v) y ≡ true → ◌≡◌ {A = Atom-F Atom Term} (Atom-F.Var v) y
var_cases v (Atom-F.Var w) h = ap (λ (e : VarId). let x : Atom-F Atom Term = Atom-F.Var e in x) (variable_is v w h)
var_cases v Atom-F.Zero h = absurd (cc)
var_cases v Atom-F.N h = absurd (cc)
var_cases v Atom-F.Nnz h = absurd (cc)
var_cases v (Atom-F.At f t) h = absurd (cc)

closed : (x : Atom-F Atom Term) → ((y : Atom-F Atom Term) → (test : same_atom (roll-Atom x) (roll-Atom y) ≡ true) → x ≡ y) → same_atom (roll-Atom x) (roll-Atom x) ≡ true → AtomIs (roll-Atom x)
closed x found itself = (
  λ b h. ap roll-Atom (found (out-Atom b) (subst (λ c. same_atom (roll-Atom x) c ≡ true) (sym (roll-out-Atom b)) h)) ∙ roll-out-Atom b,
  itself,
)

at_step : (f : ArrayId) (t : Term) → TermIs t → AtomIs (roll-Atom (Atom-F.At f t))
at_step f t inner = closed (Atom-F.At f t)
    (λ y h. let opened : same_atom (roll-Atom (Atom-F.At f t)) (roll-Atom y) ≡ same_open (Atom-F.At f (same_term t)) y = search (rules, ATOM.TheFolds.the_lemmas) in at_cases f t inner y (sym opened ∙ h))
    (let opened : same_atom (roll-Atom (Atom-F.At f t)) (roll-Atom (Atom-F.At f t)) ≡ ((f.0 == f.0) && same_term t t) = search (rules, ATOM.TheFolds.the_lemmas) in opened ∙ and_true (f.0 == f.0) (same_term t t) (same_number f.0) inner.1)

zero_step : AtomIs (roll-Atom Atom-F.Zero)
zero_step = closed Atom-F.Zero
    (λ y h. let opened : same_atom (roll-Atom Atom-F.Zero) (roll-Atom y) ≡ same_open Atom-F.Zero y = search (rules, ATOM.TheFolds.the_lemmas) in zero_cases y (sym opened ∙ h))
    (search (rules, ATOM.TheFolds.the_lemmas))

n_step : AtomIs (roll-Atom Atom-F.N)
n_step = closed Atom-F.N
    (λ y h. let opened : same_atom (roll-Atom Atom-F.N) (roll-Atom y) ≡ same_open Atom-F.N y = search (rules, ATOM.TheFolds.the_lemmas) in n_cases y (sym opened ∙ h))
    (search (rules, ATOM.TheFolds.the_lemmas))

nnz_step : AtomIs (roll-Atom Atom-F.Nnz)
nnz_step = closed Atom-F.Nnz
    (λ y h. let opened : same_atom (roll-Atom Atom-F.Nnz) (roll-Atom y) ≡ same_open Atom-F.Nnz y = search (rules, ATOM.TheFolds.the_lemmas) in nnz_cases y (sym opened ∙ h))
    (search (rules, ATOM.TheFolds.the_lemmas))

var_step : (v : VarId) → AtomIs (roll-Atom (Atom-F.Var v))
var_step v = closed (Atom-F.Var v)
    (λ y h. let opened : same_atom (roll-Atom (Atom-F.Var v)) (roll-Atom y) ≡ same_open (Atom-F.Var v) y = search (rules, ATOM.TheFolds.the_lemmas) in var_cases v y (sym opened ∙ h))
    (let opened : same_atom (roll-Atom (Atom-F.Var v)) (roll-Atom (Atom-F.Var v)) ≡ ((v.line == v.line) && same_side v.side v.side) = search (rules, ATOM.TheFolds.the_lemmas) in opened ∙ and_true (v.line == v.line) (same_side v.side v.side) (same_number v.line) (same_side_itself v.side))

term_is : (t u : Term) → t.atom ≡ u.atom → t.plus ≡ u.plus → t ≡ u
term_is t u a p =
    ap (λ (x : Atom). let y : Term = record { atom = x; plus = t.plus } in y) a
    ∙ ap (λ (z : ℤ). let y : Term = record { atom = u.atom; plus = z } in y) p

term_step : (t : Term-F Atom Term) → AtomIs t.atom → TermIs (roll-Term t)
term_step t inner =
    let here : (roll-Term t).atom ≡ t.atom = search (rules, ATOM.TheFolds.the_lemmas) in
    let plus : (roll-Term t).plus ≡ t.plus = search (rules, ATOM.TheFolds.the_lemmas) in (
      λ u h.
          let opened : same_term (roll-Term t) u ≡ (same_atom t.atom u.atom && int_eq t.plus u.plus) = search (rules, ATOM.TheFolds.the_lemmas) in
          let two = both (same_atom t.atom u.atom) (int_eq t.plus u.plus) (sym opened ∙ h) in
          term_is (roll-Term t) u (here ∙ inner.0 u.atom two.0) (plus ∙ (Decides-int_eq t.plus u.plus).0 two.1),
      let opened : same_term (roll-Term t) (roll-Term t) ≡ (same_atom t.atom t.atom && int_eq t.plus t.plus) = search (rules, ATOM.TheFolds.the_lemmas) in
          opened ∙ and_true (same_atom t.atom t.atom) (int_eq t.plus t.plus) inner.1 ((Decides-int_eq t.plus t.plus).1 refl),
    )

atom_from : {A B : Type 0} (pa : A → Atom) (pb : B → Term) → ((b : B) → TermIs (pb b)) → (y : Atom-F A B) (x : Atom-F Atom Term) → map-Atom A B Atom Term pa pb y ≡ x → AtomIs (roll-Atom x)
atom_from pa pb inner (Atom-F.At f e) x is = subst (λ z. AtomIs (roll-Atom z)) is (at_step f (pb e) (inner e))
atom_from pa pb inner Atom-F.Zero x is = subst (λ z. AtomIs (roll-Atom z)) is zero_step
atom_from pa pb inner Atom-F.N x is = subst (λ z. AtomIs (roll-Atom z)) is n_step
atom_from pa pb inner Atom-F.Nnz x is = subst (λ z. AtomIs (roll-Atom z)) is nnz_step
atom_from pa pb inner (Atom-F.Var v) x is = subst (λ z. AtomIs (roll-Atom z)) is (var_step v)

term_from : {A B : Type 0} (pa : A → Atom) (pb : B → Term) → ((a : A) → AtomIs (pa a)) → (y : Term-F A B) (x : Term-F Atom Term) → map-Term A B Atom Term pa pb y ≡ x → TermIs (roll-Term x)
term_from {A} {B} pa pb inner y x is =
    subst (λ z. TermIs (roll-Term z)) is (term_step (map-Term A B Atom Term pa pb y) (inner y.atom))

atoms_are : (a : Atom) → AtomIs a
atoms_are =
    ind-Atom AtomIs TermIs (λ x y is. atom_from (λ e. e.0) (λ e. e.0) (λ e. e.1) y x is) (λ x y is. term_from (λ e. e.0) (λ e. e.0) (λ e. e.1) y x is)

terms_are : (t : Term) → TermIs t
terms_are =
    ind-Term AtomIs TermIs (λ x y is. atom_from (λ e. e.0) (λ e. e.0) (λ e. e.1) y x is) (λ x y is. term_from (λ e. e.0) (λ e. e.0) (λ e. e.1) y x is)

pub atom_is : (a b : Atom) → same_atom a b ≡ true → a ≡ b
atom_is a b h = (atoms_are a).0 b h

pub same_itself : (a : Atom) → same_atom a a ≡ true
same_itself a = (atoms_are a).1

pub same_term_is : (t u : Term) → same_term t u ≡ true → t ≡ u
same_term_is t u h = (terms_are t).0 u h

pub same_term_itself : (t : Term) → same_term t t ≡ true
same_term_itself t = (terms_are t).1

-- the test of being listed is exact
pub listed_is : (atoms : List Atom) (a : Atom) → is_listed atoms a ≡ true → Contains atoms a
listed_is atoms a h = Contains-from_any atom_is a atoms h

or_right : (a b : Bool) → b ≡ true → (a || b) ≡ true
or_right true b h = refl
or_right false b h = h

or_left : (a b : Bool) → a ≡ true → (a || b) ≡ true
or_left true b h = refl
or_left false b h = absurd (cc)

pub is_among : (atoms : List Atom) (a : Atom) → Contains atoms a → is_listed atoms a ≡ true
is_among [] a (k, l, e) = absurd (omega arith)
is_among (b ∷ atoms) a (zero, l, e) = or_left (same_atom a b) (is_listed atoms a) (subst (λ c. same_atom a c ≡ true) (sym e) (same_itself a))
is_among (b ∷ atoms) a (suc k, l, e) = or_right (same_atom a b) (is_listed atoms a) (is_among atoms a (k, omega arith, e))

-- another test of equality gives the same answers
same_answer : (p q : Bool) → (p ≡ true → q ≡ true) → (q ≡ true → p ≡ true) → p ≡ q
same_answer true q forth back = sym (forth refl)
same_answer false true forth back = back refl
same_answer false false forth back = refl

pub atom_test : (r : Bool) (a b : Atom) → (IsTrue r ↔ (a ≡ b)) → r ≡ same_atom a b
atom_test r a b h =
    same_answer r (same_atom a b) (λ t. subst (λ x. same_atom a x ≡ true) (h.0 t) (same_itself a)) (λ t. h.1 (atom_is a b t))

pub term_test : (r : Bool) (t u : Term) → (IsTrue r ↔ (t ≡ u)) → r ≡ same_term t u
term_test r t u h =
    same_answer r (same_term t u) (λ e. subst (λ x. same_term t x ≡ true) (h.0 e) (same_term_itself t)) (λ e. h.1 (same_term_is t u e))
