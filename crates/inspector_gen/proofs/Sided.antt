-- A term on a side has its variables there, and the same arrays.
use Rattle.std.proofs.Common.{◌≡◌, List, [], ◌∷◌, ◌++◌, map, sym, ap, ◌∙◌, subst, rules}
use Rattle.wave_base.specs.declared.types.ArrayId.{ArrayId}
use Rattle.loop_core.specs.declared.nest.Side.{Side}
use Rattle.loop_core.specs.declared.nest.VarId.{VarId}
use Rattle.loop_core.specs.declared.nest.Term.{Term, roll-Term, map-Term}
use Rattle.loop_core.specs.declared.nest.Atom.{Atom, roll-Atom, map-Atom}
use Rattle.loop_core.specs.declared.nest.Atom as ATOM
use Rattle.loop_core.specs.declared.nest.Atom.TheOpen.{Atom-F, Term-F}
use Rattle.loop_core.specs.declared.nest.Atom.TheFolds.{fold-Atom, ind-Term}
use Rattle.loop_core.specs.Shape.{vars_step, term_vars, arrays_step, term_arrays}
use Rattle.uf_constraints.specs.Bases.{atom_on, on}

abbrev vars_of : Atom → List VarId
vars_of = fold-Atom (List VarId) (List VarId) vars_step (λ t. t.atom)

abbrev pub arrays_of : Atom → List ArrayId
arrays_of = fold-Atom (List ArrayId) (List ArrayId) arrays_step (λ t. t.atom)

-- the arrays of a term are those of its atom
pub term_arrays_are : (t : Term) → term_arrays t ≡ arrays_of t.atom
term_arrays_are t = search (rules, ATOM.TheFolds.the_lemmas)

module _ (side : Side) where
  abbrev pub there : VarId → VarId
  there v = record { line = v.line; side = side }

  -- Variables.

  abbrev AtomVars : Atom → Type 0
  AtomVars x = vars_of (atom_on side x) ≡ map there (vars_of x)

  abbrev TermVars : Term → Type 0
  TermVars t = term_vars (on side t) ≡ map there (term_vars t)

  at_vars : (f : ArrayId) (t : Term) → TermVars t → AtomVars (roll-Atom (Atom-F.At f t))
  at_vars f t is =
      let left : vars_of (atom_on side (roll-Atom (Atom-F.At f t))) ≡ term_vars (on side t) = search (rules, ATOM.TheFolds.the_lemmas) in
      let right : vars_of (roll-Atom (Atom-F.At f t)) ≡ term_vars t = search (rules, ATOM.TheFolds.the_lemmas) in
      left ∙ is ∙ ap (map there) (sym right)

  var_vars : (v : VarId) → AtomVars (roll-Atom (Atom-F.Var v))
  var_vars v =
      let left : vars_of (atom_on side (roll-Atom (Atom-F.Var v))) ≡ there v ∷ [] = search (rules, ATOM.TheFolds.the_lemmas) in
      let right : vars_of (roll-Atom (Atom-F.Var v)) ≡ v ∷ [] = search (rules, ATOM.TheFolds.the_lemmas) in
      left ∙ ap (map there) (sym right)

  no_vars : (x : Atom-F Atom Term) → vars_of (atom_on side (roll-Atom x)) ≡ [] → vars_of (roll-Atom x) ≡ [] → AtomVars (roll-Atom x)
  no_vars x left right = left ∙ ap (map there) (sym right)

  term_vars_on : (t : Term-F Atom Term) → AtomVars t.atom → TermVars (roll-Term t)
  term_vars_on t is =
      let left : term_vars (on side (roll-Term t)) ≡ vars_of (atom_on side t.atom) = search (rules, ATOM.TheFolds.the_lemmas) in
      let right : term_vars (roll-Term t) ≡ vars_of t.atom = search (rules, ATOM.TheFolds.the_lemmas) in
      left ∙ is ∙ ap (map there) (sym right)

  vars_from : {A B : Type 0} (pa : A → Atom) (pb : B → Term) → ((b : B) → TermVars (pb b)) → (y : Atom-F A B) (x : Atom-F Atom Term) → map-Atom A B Atom Term pa pb y ≡ x → AtomVars (roll-Atom x)
  vars_from pa pb fine (Atom-F.At f t) x is = subst (λ z. AtomVars (roll-Atom z)) is (at_vars f (pb t) (fine t))
  vars_from pa pb fine Atom-F.Zero x is = subst (λ z. AtomVars (roll-Atom z)) is (no_vars Atom-F.Zero (search (rules, ATOM.TheFolds.the_lemmas)) (search (rules, ATOM.TheFolds.the_lemmas)))
  vars_from pa pb fine Atom-F.N x is = subst (λ z. AtomVars (roll-Atom z)) is (no_vars Atom-F.N (search (rules, ATOM.TheFolds.the_lemmas)) (search (rules, ATOM.TheFolds.the_lemmas)))
  vars_from pa pb fine Atom-F.Nnz x is = subst (λ z. AtomVars (roll-Atom z)) is (no_vars Atom-F.Nnz (search (rules, ATOM.TheFolds.the_lemmas)) (search (rules, ATOM.TheFolds.the_lemmas)))
  vars_from pa pb fine (Atom-F.Var v) x is = subst (λ z. AtomVars (roll-Atom z)) is (var_vars v)

  term_vars_from : {A B : Type 0} (pa : A → Atom) (pb : B → Term) → ((x : A) → AtomVars (pa x)) → (y : Term-F A B) (x : Term-F Atom Term) → map-Term A B Atom Term pa pb y ≡ x → TermVars (roll-Term x)
  term_vars_from {A} {B} pa pb fine y x is = subst (λ z. TermVars (roll-Term z)) is (term_vars_on (map-Term A B Atom Term pa pb y) (fine y.atom))

  pub vars_on : (t : Term) → TermVars t
  vars_on =
      ind-Term AtomVars TermVars (λ x y is. vars_from (λ z. z.0) (λ z. z.0) (λ z. z.1) y x is) (λ x y is. term_vars_from (λ z. z.0) (λ z. z.0) (λ z. z.1) y x is)

  -- Arrays.

  abbrev AtomArrays : Atom → Type 0
  AtomArrays x = arrays_of (atom_on side x) ≡ arrays_of x

  abbrev TermArrays : Term → Type 0
  TermArrays t = term_arrays (on side t) ≡ term_arrays t

  at_arrays : (f : ArrayId) (t : Term) → TermArrays t → AtomArrays (roll-Atom (Atom-F.At f t))
  at_arrays f t is =
      let left : arrays_of (atom_on side (roll-Atom (Atom-F.At f t))) ≡ term_arrays (on side t) ++ f ∷ [] = search (rules, ATOM.TheFolds.the_lemmas) in
      let right : arrays_of (roll-Atom (Atom-F.At f t)) ≡ term_arrays t ++ f ∷ [] = search (rules, ATOM.TheFolds.the_lemmas) in
      left ∙ ap (λ l. l ++ f ∷ []) is ∙ sym right

  no_arrays : (x : Atom-F Atom Term) → arrays_of (atom_on side (roll-Atom x)) ≡ [] → arrays_of (roll-Atom x) ≡ [] → AtomArrays (roll-Atom x)
  no_arrays x left right = left ∙ sym right

  term_arrays_on : (t : Term-F Atom Term) → AtomArrays t.atom → TermArrays (roll-Term t)
  term_arrays_on t is =
      let left : term_arrays (on side (roll-Term t)) ≡ arrays_of (atom_on side t.atom) = search (rules, ATOM.TheFolds.the_lemmas) in
      let right : term_arrays (roll-Term t) ≡ arrays_of t.atom = search (rules, ATOM.TheFolds.the_lemmas) in
      left ∙ is ∙ sym right

  arrays_from : {A B : Type 0} (pa : A → Atom) (pb : B → Term) → ((b : B) → TermArrays (pb b)) → (y : Atom-F A B) (x : Atom-F Atom Term) → map-Atom A B Atom Term pa pb y ≡ x → AtomArrays (roll-Atom x)
  arrays_from pa pb fine (Atom-F.At f t) x is = subst (λ z. AtomArrays (roll-Atom z)) is (at_arrays f (pb t) (fine t))
  arrays_from pa pb fine Atom-F.Zero x is = subst (λ z. AtomArrays (roll-Atom z)) is (no_arrays Atom-F.Zero (search (rules, ATOM.TheFolds.the_lemmas)) (search (rules, ATOM.TheFolds.the_lemmas)))
  arrays_from pa pb fine Atom-F.N x is = subst (λ z. AtomArrays (roll-Atom z)) is (no_arrays Atom-F.N (search (rules, ATOM.TheFolds.the_lemmas)) (search (rules, ATOM.TheFolds.the_lemmas)))
  arrays_from pa pb fine Atom-F.Nnz x is = subst (λ z. AtomArrays (roll-Atom z)) is (no_arrays Atom-F.Nnz (search (rules, ATOM.TheFolds.the_lemmas)) (search (rules, ATOM.TheFolds.the_lemmas)))
  arrays_from pa pb fine (Atom-F.Var v) x is = subst (λ z. AtomArrays (roll-Atom z)) is (no_arrays (Atom-F.Var v) (search (rules, ATOM.TheFolds.the_lemmas)) (search (rules, ATOM.TheFolds.the_lemmas)))

  term_arrays_from : {A B : Type 0} (pa : A → Atom) (pb : B → Term) → ((x : A) → AtomArrays (pa x)) → (y : Term-F A B) (x : Term-F Atom Term) → map-Term A B Atom Term pa pb y ≡ x → TermArrays (roll-Term x)
  term_arrays_from {A} {B} pa pb fine y x is = subst (λ z. TermArrays (roll-Term z)) is (term_arrays_on (map-Term A B Atom Term pa pb y) (fine y.atom))

  pub arrays_on : (t : Term) → TermArrays t
  arrays_on =
      ind-Term AtomArrays TermArrays (λ x y is. arrays_from (λ z. z.0) (λ z. z.0) (λ z. z.1) y x is) (λ x y is. term_arrays_from (λ z. z.0) (λ z. z.0) (λ z. z.1) y x is)
