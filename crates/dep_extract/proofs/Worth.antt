-- The value of a term, where a variable is known by the line of its loop.
use Rattle.std.proofs.Common.{◌≡◌, ℕ, ℤ, pos, ◌+ℤ◌, Bool, true, false, List, [], ◌∷◌, refl, sym, ap, ◌∙◌, subst, rules}
use Rattle.std.specs.List.{list_all}
use Rattle.wave_base.specs.declared.types.ArrayId.{ArrayId}
use Rattle.loop_core.specs.declared.nest.Side.{Side}
use Rattle.loop_core.specs.declared.nest.VarId.{VarId}
use Rattle.loop_core.specs.declared.nest.Term.{Term, roll-Term, map-Term}
use Rattle.loop_core.specs.declared.nest.Atom.{Atom, roll-Atom, map-Atom}
use Rattle.loop_core.specs.declared.nest.Atom as ATOM
use Rattle.loop_core.specs.declared.nest.Atom.TheOpen.{Atom-F, Term-F}
use Rattle.loop_core.specs.declared.nest.Atom.TheFolds.{fold-Atom, fold-Term, ind-Term}
use Rattle.loop_core.specs.Lists.{Lists, entry}
use Rattle.loop_core.specs.Binding.{Binding, value_in}
use Rattle.loop_core.specs.Terms.{term_step, term_value, atom_value}
use Rattle.loop_core.specs.Shape.{Loop, vars_step, term_vars}
use Rattle.loop_core.specs.IsNest.{is_round}
use Rattle.uf_constraints.specs.Bases.{on, atom_on}

abbrev valued : Lists → (ℕ → ℤ) → Atom-F ℤ ℤ → ℤ
valued a r Atom-F.Zero = pos 0
valued a r Atom-F.N = pos a.n
valued a r Atom-F.Nnz = pos a.nnz
valued a r (Atom-F.Var var) = r var.line
valued a r (Atom-F.At array inner) = entry a.lists array inner

abbrev pub worth : Lists → (ℕ → ℤ) → Term → ℤ
worth a r = fold-Term ℤ ℤ (valued a r) term_step

abbrev pub atom_worth : Lists → (ℕ → ℤ) → Atom → ℤ
atom_worth a r = fold-Atom ℤ ℤ (valued a r) term_step

-- the values that bindings give to the variables on a side
abbrev pub on_line : List Binding → Side → ℕ → ℤ
on_line e side line = value_in e (record { line = line; side = side })

-- Terms on a side.

module _ (a : Lists) (e : List Binding) (side : Side) where
  abbrev r : ℕ → ℤ
  r = on_line e side

  abbrev AtomOn : Atom → Type 0
  AtomOn x = atom_value a e (atom_on side x) ≡ atom_worth a r x

  abbrev TermOn : Term → Type 0
  TermOn t = term_value a e (on side t) ≡ worth a r t

  at_on : (f : ArrayId) (t : Term) → TermOn t → AtomOn (roll-Atom (Atom-F.At f t))
  at_on f t is =
      let left : atom_value a e (atom_on side (roll-Atom (Atom-F.At f t))) ≡ entry a.lists f (term_value a e (on side t)) = search (rules, ATOM.TheFolds.the_lemmas) in
      let right : atom_worth a r (roll-Atom (Atom-F.At f t)) ≡ entry a.lists f (worth a r t) = search (rules, ATOM.TheFolds.the_lemmas) in
      left ∙ ap (entry a.lists f) is ∙ sym right

  term_on : (t : Term-F Atom Term) → AtomOn t.atom → TermOn (roll-Term t)
  term_on t is =
      let left : term_value a e (on side (roll-Term t)) ≡ (atom_value a e (atom_on side t.atom) +ℤ t.plus) = search (rules, ATOM.TheFolds.the_lemmas) in
      let right : worth a r (roll-Term t) ≡ (atom_worth a r t.atom +ℤ t.plus) = search (rules, ATOM.TheFolds.the_lemmas) in
      left ∙ ap (λ z. z +ℤ t.plus) is ∙ sym right

  atom_from : {A B : Type 0} (pa : A → Atom) (pb : B → Term) → ((b : B) → TermOn (pb b)) → (y : Atom-F A B) (x : Atom-F Atom Term) → map-Atom A B Atom Term pa pb y ≡ x → AtomOn (roll-Atom x)
  atom_from pa pb fine (Atom-F.At f t) x is = subst (λ z. AtomOn (roll-Atom z)) is (at_on f (pb t) (fine t))
  atom_from pa pb fine Atom-F.Zero x is = subst (λ z. AtomOn (roll-Atom z)) is (search (rules, ATOM.TheFolds.the_lemmas))
  atom_from pa pb fine Atom-F.N x is = subst (λ z. AtomOn (roll-Atom z)) is (search (rules, ATOM.TheFolds.the_lemmas))
  atom_from pa pb fine Atom-F.Nnz x is = subst (λ z. AtomOn (roll-Atom z)) is (search (rules, ATOM.TheFolds.the_lemmas))
  atom_from pa pb fine (Atom-F.Var v) x is = subst (λ z. AtomOn (roll-Atom z)) is (search (rules, ATOM.TheFolds.the_lemmas))

  term_from : {A B : Type 0} (pa : A → Atom) (pb : B → Term) → ((x : A) → AtomOn (pa x)) → (y : Term-F A B) (x : Term-F Atom Term) → map-Term A B Atom Term pa pb y ≡ x → TermOn (roll-Term x)
  term_from {A} {B} pa pb fine y x is = subst (λ z. TermOn (roll-Term z)) is (term_on (map-Term A B Atom Term pa pb y) (fine y.atom))

  pub value_on : (t : Term) → TermOn t
  value_on =
      ind-Term AtomOn TermOn (λ x y is. atom_from (λ z. z.0) (λ z. z.0) (λ z. z.1) y x is) (λ x y is. term_from (λ z. z.0) (λ z. z.0) (λ z. z.1) y x is)

-- the bindings give each variable of a loop round it the value of its line
abbrev pub Agrees : List Loop → List Binding → (ℕ → ℤ) → Type 0
Agrees around env r = (v : VarId) → is_round around v ≡ true → value_in env v ≡ r v.line

-- Terms whose variables are known.

module _ (a : Lists) (around : List Loop) (env : List Binding) (r : ℕ → ℤ) (agrees : Agrees around env r) where
  abbrev vars_of : Atom → List VarId
  vars_of = fold-Atom (List VarId) (List VarId) vars_step (λ t. t.atom)

  abbrev AtomKnown : Atom → Type 0
  AtomKnown x = list_all (is_round around) (vars_of x) ≡ true → atom_value a env x ≡ atom_worth a r x

  abbrev TermKnown : Term → Type 0
  TermKnown t = list_all (is_round around) (term_vars t) ≡ true → term_value a env t ≡ worth a r t

  at_known : (f : ArrayId) (t : Term) → TermKnown t → AtomKnown (roll-Atom (Atom-F.At f t))
  at_known f t is h =
      let same : vars_of (roll-Atom (Atom-F.At f t)) ≡ term_vars t = search (rules, ATOM.TheFolds.the_lemmas) in
      let left : atom_value a env (roll-Atom (Atom-F.At f t)) ≡ entry a.lists f (term_value a env t) = search (rules, ATOM.TheFolds.the_lemmas) in
      let right : atom_worth a r (roll-Atom (Atom-F.At f t)) ≡ entry a.lists f (worth a r t) = search (rules, ATOM.TheFolds.the_lemmas) in
      left ∙ ap (entry a.lists f) (is (ap (list_all (is_round around)) (sym same) ∙ h)) ∙ sym right

  var_known : (v : VarId) → AtomKnown (roll-Atom (Atom-F.Var v))
  var_known v h =
      let same : vars_of (roll-Atom (Atom-F.Var v)) ≡ v ∷ [] = search (rules, ATOM.TheFolds.the_lemmas) in
      let left : atom_value a env (roll-Atom (Atom-F.Var v)) ≡ value_in env v = search (rules, ATOM.TheFolds.the_lemmas) in
      let right : atom_worth a r (roll-Atom (Atom-F.Var v)) ≡ r v.line = search (rules, ATOM.TheFolds.the_lemmas) in
      left ∙ agrees v (first (is_round around v) (ap (list_all (is_round around)) (sym same) ∙ h)) ∙ sym right
    where
      first : (s : Bool) → list_all (λ (b : Bool). b) (s ∷ []) ≡ true → s ≡ true
      first true e = refl
      first false e = absurd (cc)

  term_known : (t : Term-F Atom Term) → AtomKnown t.atom → TermKnown (roll-Term t)
  term_known t is h =
      let same : term_vars (roll-Term t) ≡ vars_of t.atom = search (rules, ATOM.TheFolds.the_lemmas) in
      let left : term_value a env (roll-Term t) ≡ (atom_value a env t.atom +ℤ t.plus) = search (rules, ATOM.TheFolds.the_lemmas) in
      let right : worth a r (roll-Term t) ≡ (atom_worth a r t.atom +ℤ t.plus) = search (rules, ATOM.TheFolds.the_lemmas) in
      left ∙ ap (λ z. z +ℤ t.plus) (is (ap (list_all (is_round around)) (sym same) ∙ h)) ∙ sym right

  known_from : {A B : Type 0} (pa : A → Atom) (pb : B → Term) → ((b : B) → TermKnown (pb b)) → (y : Atom-F A B) (x : Atom-F Atom Term) → map-Atom A B Atom Term pa pb y ≡ x → AtomKnown (roll-Atom x)
  known_from pa pb fine (Atom-F.At f t) x is = subst (λ z. AtomKnown (roll-Atom z)) is (at_known f (pb t) (fine t))
  known_from pa pb fine Atom-F.Zero x is = subst (λ z. AtomKnown (roll-Atom z)) is (λ h. search (rules, ATOM.TheFolds.the_lemmas))
  known_from pa pb fine Atom-F.N x is = subst (λ z. AtomKnown (roll-Atom z)) is (λ h. search (rules, ATOM.TheFolds.the_lemmas))
  known_from pa pb fine Atom-F.Nnz x is = subst (λ z. AtomKnown (roll-Atom z)) is (λ h. search (rules, ATOM.TheFolds.the_lemmas))
  known_from pa pb fine (Atom-F.Var v) x is = subst (λ z. AtomKnown (roll-Atom z)) is (var_known v)

  known_term_from : {A B : Type 0} (pa : A → Atom) (pb : B → Term) → ((x : A) → AtomKnown (pa x)) → (y : Term-F A B) (x : Term-F Atom Term) → map-Term A B Atom Term pa pb y ≡ x → TermKnown (roll-Term x)
  known_term_from {A} {B} pa pb fine y x is = subst (λ z. TermKnown (roll-Term z)) is (term_known (map-Term A B Atom Term pa pb y) (fine y.atom))

  pub value_known : (t : Term) → TermKnown t
  value_known =
      ind-Term AtomKnown TermKnown (λ x y is. known_from (λ z. z.0) (λ z. z.0) (λ z. z.1) y x is) (λ x y is. known_term_from (λ z. z.0) (λ z. z.0) (λ z. z.1) y x is)
