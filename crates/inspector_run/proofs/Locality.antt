-- The value of a term depends on its variables alone.
use Rattle.std.proofs.Common.{◌≡◌, ◌+ℤ◌, Bool, true, List, [], ◌∷◌, sym, ap, ◌∙◌, subst, rules}
use Rattle.std.specs.List.{list_all}
use Rattle.std.proofs.lemmas.Bool.{and_parts}
use Rattle.wave_base.specs.declared.types.ArrayId.{ArrayId}
use Rattle.loop_core.specs.declared.nest.VarId.{VarId}
use Rattle.loop_core.specs.declared.nest.Term.{Term, roll-Term, map-Term}
use Rattle.loop_core.specs.declared.nest.Atom.{Atom, roll-Atom, map-Atom}
use Rattle.loop_core.specs.declared.nest.Atom as ATOM
use Rattle.loop_core.specs.declared.nest.Atom.TheOpen.{Atom-F, Term-F}
use Rattle.loop_core.specs.declared.nest.Atom.TheFolds.{fold-Atom, ind-Term}
use Rattle.loop_core.specs.Lists.{Lists, entry}
use Rattle.loop_core.specs.Binding.{Binding, value_in}
use Rattle.loop_core.specs.Terms.{term_value, atom_value}
use Rattle.loop_core.specs.Shape.{vars_step, term_vars}

abbrev vars_of : Atom → List VarId
vars_of = fold-Atom (List VarId) (List VarId) vars_step (λ t. t.atom)

module _ (a : Lists) (e f : List Binding) (p : VarId → Bool) (agree : (v : VarId) → p v ≡ true → value_in e v ≡ value_in f v) where
  abbrev AtomSame : Atom → Type 0
  AtomSame x = list_all p (vars_of x) ≡ true → atom_value a e x ≡ atom_value a f x

  abbrev TermSame : Term → Type 0
  TermSame t = list_all p (term_vars t) ≡ true → term_value a e t ≡ term_value a f t

  at_same : (array : ArrayId) (t : Term) → TermSame t → AtomSame (roll-Atom (Atom-F.At array t))
  at_same array t is h =
      let same : vars_of (roll-Atom (Atom-F.At array t)) ≡ term_vars t = search (rules, ATOM.TheFolds.the_lemmas) in
      let left : atom_value a e (roll-Atom (Atom-F.At array t)) ≡ entry a.lists array (term_value a e t) = search (rules, ATOM.TheFolds.the_lemmas) in
      let right : atom_value a f (roll-Atom (Atom-F.At array t)) ≡ entry a.lists array (term_value a f t) = search (rules, ATOM.TheFolds.the_lemmas) in
      left ∙ ap (entry a.lists array) (is (ap (list_all p) (sym same) ∙ h)) ∙ sym right

  var_same : (v : VarId) → AtomSame (roll-Atom (Atom-F.Var v))
  var_same v h =
      let same : vars_of (roll-Atom (Atom-F.Var v)) ≡ v ∷ [] = search (rules, ATOM.TheFolds.the_lemmas) in
      let left : atom_value a e (roll-Atom (Atom-F.Var v)) ≡ value_in e v = search (rules, ATOM.TheFolds.the_lemmas) in
      let right : atom_value a f (roll-Atom (Atom-F.Var v)) ≡ value_in f v = search (rules, ATOM.TheFolds.the_lemmas) in
      left ∙ agree v (and_parts (p v) true (ap (list_all p) (sym same) ∙ h)).0 ∙ sym right

  term_same : (t : Term-F Atom Term) → AtomSame t.atom → TermSame (roll-Term t)
  term_same t is h =
      let same : term_vars (roll-Term t) ≡ vars_of t.atom = search (rules, ATOM.TheFolds.the_lemmas) in
      let left : term_value a e (roll-Term t) ≡ (atom_value a e t.atom +ℤ t.plus) = search (rules, ATOM.TheFolds.the_lemmas) in
      let right : term_value a f (roll-Term t) ≡ (atom_value a f t.atom +ℤ t.plus) = search (rules, ATOM.TheFolds.the_lemmas) in
      left ∙ ap (λ z. z +ℤ t.plus) (is (ap (list_all p) (sym same) ∙ h)) ∙ sym right

  atom_from : {A B : Type 0} (pa : A → Atom) (pb : B → Term) → ((b : B) → TermSame (pb b)) → (y : Atom-F A B) (x : Atom-F Atom Term) → map-Atom A B Atom Term pa pb y ≡ x → AtomSame (roll-Atom x)
  atom_from pa pb fine (Atom-F.At g t) x is = subst (λ z. AtomSame (roll-Atom z)) is (at_same g (pb t) (fine t))
  atom_from pa pb fine Atom-F.Zero x is = subst (λ z. AtomSame (roll-Atom z)) is (λ h. search (rules, ATOM.TheFolds.the_lemmas))
  atom_from pa pb fine Atom-F.N x is = subst (λ z. AtomSame (roll-Atom z)) is (λ h. search (rules, ATOM.TheFolds.the_lemmas))
  atom_from pa pb fine Atom-F.Nnz x is = subst (λ z. AtomSame (roll-Atom z)) is (λ h. search (rules, ATOM.TheFolds.the_lemmas))
  atom_from pa pb fine (Atom-F.Var v) x is = subst (λ z. AtomSame (roll-Atom z)) is (var_same v)

  term_from : {A B : Type 0} (pa : A → Atom) (pb : B → Term) → ((x : A) → AtomSame (pa x)) → (y : Term-F A B) (x : Term-F Atom Term) → map-Term A B Atom Term pa pb y ≡ x → TermSame (roll-Term x)
  term_from {A} {B} pa pb fine y x is = subst (λ z. TermSame (roll-Term z)) is (term_same (map-Term A B Atom Term pa pb y) (fine y.atom))

  pub same_term_value : (t : Term) → TermSame t
  same_term_value =
      ind-Term AtomSame TermSame (λ x y is. atom_from (λ z. z.0) (λ z. z.0) (λ z. z.1) y x is) (λ x y is. term_from (λ z. z.0) (λ z. z.0) (λ z. z.1) y x is)
