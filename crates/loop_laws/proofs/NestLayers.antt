-- Terms and expressions whose names are resolved, layer by layer.
use Rattle.std.proofs.Common.{◌≡◌, ℤ, refl, ap, subst, ◌∙◌}
use denote.Hole.Carrier as hole
use Rattle.loop_core.specs.declared.nest.Atom.{Atom}
use Rattle.loop_core.specs.declared.nest.Term.{Term}
use Rattle.loop_core.specs.declared.nest.Atom.TheOpen.{Atom-F, Term-F}
use Rattle.loop_core.specs.declared.nest.Atom.TheViews.{roll-Atom}
use Rattle.loop_core.specs.declared.nest.Atom.TheFolds.{fold-Atom, fold-Term, fold-roll-Atom, fold-roll-Term, map-Atom}
use Rattle.loop_core.specs.declared.nest.Expr.{Expr}
use Rattle.loop_core.specs.declared.nest.Expr.TheOpen.{Expr-F}
use Rattle.loop_core.specs.declared.nest.Expr.TheViews.{roll-Expr}
use Rattle.loop_core.specs.declared.nest.Expr.TheFolds.{fold-Expr, fold-roll-Expr, map-Expr}
use Rattle.loop_lines.specs.declared.tree.NamedAtom.{NamedAtom}
use Rattle.loop_lines.specs.declared.tree.NamedAtom.TheOpen.{NamedAtom-F, NamedTerm-F}
use Rattle.loop_lines.specs.declared.tree.NamedAtom.TheViews.{roll-NamedAtom, roll-NamedTerm}
use Rattle.loop_lines.specs.declared.tree.NamedAtom.TheFolds.{fold-NamedAtom, fold-NamedTerm, ind-NamedTerm, fold-roll-NamedAtom, fold-roll-NamedTerm, map-NamedAtom}
use Rattle.loop_lines.specs.declared.tree.NamedTerm.{NamedTerm}
use Rattle.loop_lines.specs.declared.tree.NamedExpr.{NamedExpr}
use Rattle.loop_lines.specs.declared.tree.NamedExpr.TheOpen.{NamedExpr-F}
use Rattle.loop_lines.specs.declared.tree.NamedExpr.TheViews.{roll-NamedExpr}
use Rattle.loop_lines.specs.declared.tree.NamedExpr.TheFolds.{fold-roll-NamedExpr, map-NamedExpr}
use Rattle.loop_syntax.specs.Scope.{Scope}
use Rattle.loop_syntax.specs.Resolved.{array_in, variable_in, local_in, atom_step, term_step, term_in, value_step, value_in}

-- ---- terms

-- a term of one atom and a constant
abbrev pub term_of : NamedAtom-F NamedAtom NamedTerm → ℤ → NamedTerm
term_of x plus = roll-NamedTerm (record { atom = roll-NamedAtom x; plus = plus })

-- what holds of a term of each kind of atom, where it holds of the term within, holds of every term
module _ (P : NamedTerm → Type 0) where
  abbrev pub TermSo : Type 0
  TermSo = (t : NamedTerm) × P t

  abbrev AtomP : NamedAtom → Type 0
  AtomP a = (plus : ℤ) → P (roll-NamedTerm (record { atom = a; plus = plus }))

  abbrev AtomSo : Type 0
  AtomSo = (a : NamedAtom) × AtomP a

  abbrev pub Step : Type 0
  Step = (y : NamedAtom-F NamedAtom TermSo) (plus : ℤ) → P (term_of (map-NamedAtom NamedAtom TermSo NamedAtom NamedTerm (λ a. a) (λ e. e.0) y) plus)

  atom_case : Step → (y : NamedAtom-F AtomSo TermSo) → AtomP (roll-NamedAtom (map-NamedAtom AtomSo TermSo NamedAtom NamedTerm (λ e. e.0) (λ e. e.0) y))
  atom_case step NamedAtom-F.Zero plus = step NamedAtom-F.Zero plus
  atom_case step NamedAtom-F.N plus = step NamedAtom-F.N plus
  atom_case step NamedAtom-F.Nnz plus = step NamedAtom-F.Nnz plus
  atom_case step (NamedAtom-F.Var name) plus = step (NamedAtom-F.Var name) plus
  atom_case step (NamedAtom-F.At array inner) plus = step (NamedAtom-F.At array inner) plus

  pub by_layers : Step → (t : NamedTerm) → P t
  by_layers step = ind-NamedTerm AtomP P
      (λ x y is. subst (λ z. AtomP (roll-NamedAtom z)) is (atom_case step y))
      (λ x y is. subst (λ z. P (roll-NamedTerm z)) is (y.atom.1 y.plus))

-- one layer of a term with names
pub named_layer : {A B : Type 0} (f : NamedAtom-F A B → A) (g : NamedTerm-F A B → B) (x : NamedAtom-F NamedAtom NamedTerm) (plus : ℤ)
    → fold-NamedTerm A B f g (term_of x plus) ≡ g (record { atom = f (map-NamedAtom NamedAtom NamedTerm A B (fold-NamedAtom A B f g) (fold-NamedTerm A B f g) x); plus = plus })
named_layer {A = A} {B = B} f g x plus =
    let of : A → B = λ a. g (record { atom = a; plus = plus }) in
    fold-roll-NamedTerm A B f g (record { atom = roll-NamedAtom x; plus = plus }) ∙ ap of (fold-roll-NamedAtom A B f g x)

-- one layer of an atom with its names resolved
abbrev pub atom_layer : {A B : Type 0} → Scope → NamedAtom-F A B → Atom-F A B
atom_layer s NamedAtom-F.Zero = Atom-F.Zero
atom_layer s NamedAtom-F.N = Atom-F.N
atom_layer s NamedAtom-F.Nnz = Atom-F.Nnz
atom_layer s (NamedAtom-F.Var name) = Atom-F.Var (variable_in s name)
atom_layer s (NamedAtom-F.At array inner) = Atom-F.At (array_in s array) inner

step_rolls : (s : Scope) (x : NamedAtom-F Atom Term) → atom_step s x ≡ roll-Atom (atom_layer s x)
unfolding roll-Atom hole.roll
step_rolls s NamedAtom-F.Zero = refl
step_rolls s NamedAtom-F.N = refl
step_rolls s NamedAtom-F.Nnz = refl
step_rolls s (NamedAtom-F.Var name) = refl
step_rolls s (NamedAtom-F.At array inner) = refl

abbrev pub atom_in : Scope → NamedAtom → Atom
atom_in s = fold-NamedAtom Atom Term (atom_step s) term_step

module _ {A B : Type 0} (f : Atom-F A B → A) (g : Term-F A B → B) (s : Scope) where
  -- an atom and a term with their names resolved, folded
  abbrev pub in_atom : NamedAtom → A
  in_atom a = fold-Atom A B f g (atom_in s a)

  abbrev pub in_term : NamedTerm → B
  in_term t = fold-Term A B f g (term_in s t)

  mapped : (x : NamedAtom-F NamedAtom NamedTerm)
      → map-Atom Atom Term A B (fold-Atom A B f g) (fold-Term A B f g) (atom_layer s (map-NamedAtom NamedAtom NamedTerm Atom Term (atom_in s) (term_in s) x))
      ≡ atom_layer s (map-NamedAtom NamedAtom NamedTerm A B in_atom in_term x)
  mapped NamedAtom-F.Zero = refl
  mapped NamedAtom-F.N = refl
  mapped NamedAtom-F.Nnz = refl
  mapped (NamedAtom-F.Var name) = refl
  mapped (NamedAtom-F.At array inner) = refl

  pub term_layer : (x : NamedAtom-F NamedAtom NamedTerm) (plus : ℤ)
      → in_term (term_of x plus) ≡ g (record { atom = f (atom_layer s (map-NamedAtom NamedAtom NamedTerm A B in_atom in_term x)); plus = plus })
  term_layer x plus =
      let of : A → B = λ a. g (record { atom = a; plus = plus }) in
      let y : NamedAtom-F Atom Term = map-NamedAtom NamedAtom NamedTerm Atom Term (atom_in s) (term_in s) x in
      ap (fold-Term A B f g) (fold-roll-NamedTerm Atom Term (atom_step s) term_step (record { atom = roll-NamedAtom x; plus = plus }))
      ∙ fold-roll-Term A B f g (record { atom = atom_in s (roll-NamedAtom x); plus = plus })
      ∙ ap (λ (a : Atom). of (fold-Atom A B f g a)) (fold-roll-NamedAtom Atom Term (atom_step s) term_step x ∙ step_rolls s y)
      ∙ ap of (fold-roll-Atom A B f g (atom_layer s y))
      ∙ ap (λ (z : Atom-F A B). of (f z)) (mapped x)

-- ---- expressions

abbrev pub value_layer : {A : Type 0} → Scope → NamedExpr-F A → Expr-F A
value_layer s (NamedExpr-F.Lit value) = Expr-F.Lit value
value_layer s (NamedExpr-F.Read array at) = Expr-F.Read (array_in s array) (term_in s at)
value_layer s (NamedExpr-F.Local name) = Expr-F.Local (local_in s name)
value_layer s (NamedExpr-F.Op op left right) = Expr-F.Op op left right

value_rolls : (s : Scope) (x : NamedExpr-F Expr) → value_step s x ≡ roll-Expr (value_layer s x)
unfolding roll-Expr hole.roll
value_rolls s (NamedExpr-F.Lit value) = refl
value_rolls s (NamedExpr-F.Read array at) = refl
value_rolls s (NamedExpr-F.Local name) = refl
value_rolls s (NamedExpr-F.Op op left right) = refl

module _ {A : Type 0} (f : Expr-F A → A) (s : Scope) where
  -- an expression with its names resolved, folded
  abbrev pub in_value : NamedExpr → A
  in_value v = fold-Expr A f (value_in s v)

  value_mapped : (x : NamedExpr-F NamedExpr) → map-Expr Expr A (fold-Expr A f) (value_layer s (map-NamedExpr NamedExpr Expr (value_in s) x)) ≡ value_layer s (map-NamedExpr NamedExpr A in_value x)
  value_mapped (NamedExpr-F.Lit value) = refl
  value_mapped (NamedExpr-F.Read array at) = refl
  value_mapped (NamedExpr-F.Local name) = refl
  value_mapped (NamedExpr-F.Op op left right) = refl

  pub expr_layer : (x : NamedExpr-F NamedExpr) → in_value (roll-NamedExpr x) ≡ f (value_layer s (map-NamedExpr NamedExpr A in_value x))
  expr_layer x =
      let y : NamedExpr-F Expr = map-NamedExpr NamedExpr Expr (value_in s) x in
      ap (fold-Expr A f) (fold-roll-NamedExpr Expr (value_step s) x ∙ value_rolls s y) ∙ fold-roll-Expr A f (value_layer s y) ∙ ap f (value_mapped x)
