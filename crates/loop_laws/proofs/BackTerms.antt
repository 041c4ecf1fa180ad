-- The terms and expressions of lines in a scope where lines have other numbers.
use Rattle.std.proofs.Common.{◌≡◌, ℕ, ℤ, List, refl, sym, ap, subst, ◌∙◌}
use denote.Hole.Carrier as hole
use Rattle.wave_base.specs.declared.types.ArrayId.{ArrayId}
use Rattle.loop_core.specs.declared.nest.Side.TheVariants as sides
use Rattle.loop_core.specs.declared.nest.VarId.{VarId}
use Rattle.loop_core.specs.declared.nest.Op.{Op}
use Rattle.loop_core.specs.declared.nest.Atom.{Atom}
use Rattle.loop_core.specs.declared.nest.Atom.TheVariants as atoms
use Rattle.loop_core.specs.declared.nest.Atom.TheOpen.{Atom-F}
use Rattle.loop_core.specs.declared.nest.Atom.TheViews.{roll-Atom}
use Rattle.loop_core.specs.declared.nest.Atom.TheFolds.{fold-Atom, fold-roll-Atom, fold-roll-Term, map-Atom}
use Rattle.loop_core.specs.declared.nest.Term.{Term}
use Rattle.loop_core.specs.declared.nest.Expr.{Expr}
use Rattle.loop_core.specs.declared.nest.Expr.TheVariants as exprs
use Rattle.loop_core.specs.declared.nest.Expr.TheOpen.{Expr-F}
use Rattle.loop_core.specs.declared.nest.Expr.TheViews.{roll-Expr}
use Rattle.loop_core.specs.declared.nest.Expr.TheFolds.{fold-roll-Expr, map-Expr}
use Rattle.loop_lines.specs.declared.tree.ArrayName.{ArrayName}
use Rattle.loop_lines.specs.declared.tree.NamedAtom.{NamedAtom}
use Rattle.loop_lines.specs.declared.tree.NamedAtom.TheOpen.{NamedAtom-F, NamedTerm-F}
use Rattle.loop_lines.specs.declared.tree.NamedAtom.TheViews.{roll-NamedAtom, roll-NamedTerm}
use Rattle.loop_lines.specs.declared.tree.NamedAtom.TheFolds.{fold-NamedAtom, ind-NamedTerm, fold-roll-NamedAtom, fold-roll-NamedTerm, map-NamedAtom, map-NamedTerm}
use Rattle.loop_lines.specs.declared.tree.NamedTerm.{NamedTerm}
use Rattle.loop_lines.specs.declared.tree.NamedExpr.{NamedExpr}
use Rattle.loop_lines.specs.declared.tree.NamedExpr.TheOpen.{NamedExpr-F}
use Rattle.loop_lines.specs.declared.tree.NamedExpr.TheViews.{roll-NamedExpr}
use Rattle.loop_lines.specs.declared.tree.NamedExpr.TheFolds.{ind-NamedExpr, fold-roll-NamedExpr, map-NamedExpr}
use Rattle.loop_syntax.specs.declared.scope.ArrayUse.{ArrayUse}
use Rattle.loop_syntax.specs.Scope.{Scope}
use Rattle.loop_syntax.specs.Resolved.{number_of, array_in, variable_in, local_in, atom_step, term_step, term_in, value_step, value_in}
use Rattle.loop_laws.specs.Renumbered.{renumbered_variable, renumbered_term, renumbered_value}
use Rattle.loop_laws.specs.Renumbered as anew
use Rattle.loop_laws.proofs.BackScope.{with_scope, uses_with, line_with, local_with}

-- ---- terms with other numbers, layer by layer

zero_atom : atoms.Zero ≡ roll-Atom Atom-F.Zero
unfolding roll-Atom hole.roll
zero_atom = refl

rows_atom : atoms.N ≡ roll-Atom Atom-F.N
unfolding roll-Atom hole.roll
rows_atom = refl

stored_atom : atoms.Nnz ≡ roll-Atom Atom-F.Nnz
unfolding roll-Atom hole.roll
stored_atom = refl

variable_atom : (var : VarId) → atoms.Var var ≡ roll-Atom (Atom-F.Var var)
unfolding roll-Atom hole.roll
variable_atom var = refl

entry_atom : (array : ArrayId) (inner : Term) → atoms.At array inner ≡ roll-Atom (Atom-F.At array inner)
unfolding roll-Atom hole.roll
entry_atom array inner = refl

literal_expr : (value : ℤ) → exprs.Lit value ≡ roll-Expr (Expr-F.Lit value)
unfolding roll-Expr hole.roll
literal_expr value = refl

read_expr : (array : ArrayId) (at : Term) → exprs.Read array at ≡ roll-Expr (Expr-F.Read array at)
unfolding roll-Expr hole.roll
read_expr array at = refl

local_expr : (local : ℕ) → exprs.Local local ≡ roll-Expr (Expr-F.Local local)
unfolding roll-Expr hole.roll
local_expr local = refl

op_expr : (op : Op) (left right : Expr) → exprs.Op op left right ≡ roll-Expr (Expr-F.Op op left right)
unfolding roll-Expr hole.roll
op_expr op left right = refl

module _ (f : ℕ → ℕ) (nought : f 0 ≡ 0) (s : Scope) where
  abbrev anew_atom : Atom → Atom
  anew_atom = fold-Atom Atom Term (anew.atom_step f) anew.term_step

  -- one layer with another number
  layer : (x : Atom-F Atom Term) (a : Atom) → a ≡ roll-Atom x → anew_atom a ≡ anew.atom_step f (map-Atom Atom Term Atom Term anew_atom (renumbered_term f) x)
  layer x a is = ap anew_atom is ∙ fold-roll-Atom Atom Term (anew.atom_step f) anew.term_step x

  array_with : (array : ArrayName) → array_in (with_scope f s) array ≡ array_in s array
  array_with array = ap (λ (u : ArrayName → ArrayUse). let id : ArrayId = record { 0 = number_of (u array) } in id) (uses_with f s)

  variable_with : (name : List ℕ) → variable_in (with_scope f s) name ≡ renumbered_variable f (variable_in s name)
  variable_with name = ap (λ (line : ℕ). let var : VarId = record { line = line; side = sides.Own } in var) (line_with f nought s name)

  -- ---- terms

  abbrev atom_in : Scope → NamedAtom → Atom
  atom_in t = fold-NamedAtom Atom Term (atom_step t) term_step

  abbrev SameAtom : NamedAtom → Type 0
  SameAtom a = atom_in (with_scope f s) a ≡ anew_atom (atom_in s a)

  abbrev SameTerm : NamedTerm → Type 0
  SameTerm t = term_in (with_scope f s) t ≡ renumbered_term f (term_in s t)

  abbrev AtomSo : Type 0
  AtomSo = (a : NamedAtom) × SameAtom a

  abbrev TermSo : Type 0
  TermSo = (t : NamedTerm) × SameTerm t

  atom_is : (t : Scope) (x : NamedAtom-F NamedAtom NamedTerm) → atom_in t (roll-NamedAtom x) ≡ atom_step t (map-NamedAtom NamedAtom NamedTerm Atom Term (atom_in t) (term_in t) x)
  atom_is t x = fold-roll-NamedAtom Atom Term (atom_step t) term_step x

  atom_case : (y : NamedAtom-F AtomSo TermSo) → SameAtom (roll-NamedAtom (map-NamedAtom AtomSo TermSo NamedAtom NamedTerm (λ e. e.0) (λ e. e.0) y))
  atom_case NamedAtom-F.Zero = atom_is (with_scope f s) NamedAtom-F.Zero ∙ sym (ap anew_atom (atom_is s NamedAtom-F.Zero) ∙ layer Atom-F.Zero atoms.Zero zero_atom)
  atom_case NamedAtom-F.N = atom_is (with_scope f s) NamedAtom-F.N ∙ sym (ap anew_atom (atom_is s NamedAtom-F.N) ∙ layer Atom-F.N atoms.N rows_atom)
  atom_case NamedAtom-F.Nnz = atom_is (with_scope f s) NamedAtom-F.Nnz ∙ sym (ap anew_atom (atom_is s NamedAtom-F.Nnz) ∙ layer Atom-F.Nnz atoms.Nnz stored_atom)
  atom_case (NamedAtom-F.Var name) =
      let var = variable_in s name in
      atom_is (with_scope f s) (NamedAtom-F.Var name)
      ∙ ap (λ (v : VarId). atoms.Var v) (variable_with name)
      ∙ sym (ap anew_atom (atom_is s (NamedAtom-F.Var name)) ∙ layer (Atom-F.Var var) (atoms.Var var) (variable_atom var))
  atom_case (NamedAtom-F.At array inner) =
      let x : NamedAtom-F NamedAtom NamedTerm = NamedAtom-F.At array inner.0 in
      let term = term_in s inner.0 in
      atom_is (with_scope f s) x
      ∙ ap (λ (a : ArrayId). atoms.At a (term_in (with_scope f s) inner.0)) (array_with array)
      ∙ ap (atoms.At (array_in s array)) inner.1
      ∙ sym (ap anew_atom (atom_is s x) ∙ layer (Atom-F.At (array_in s array) term) (atoms.At (array_in s array) term) (entry_atom (array_in s array) term))

  term_is : (t : Scope) (x : NamedTerm-F NamedAtom NamedTerm) → term_in t (roll-NamedTerm x) ≡ record { atom = atom_in t x.atom; plus = x.plus }
  term_is t x = fold-roll-NamedTerm Atom Term (atom_step t) term_step x

  abbrev of : Atom → ℤ → Term
  of atom plus = record { atom = atom; plus = plus }

  term_case : (y : NamedTerm-F AtomSo TermSo) → SameTerm (roll-NamedTerm (map-NamedTerm AtomSo TermSo NamedAtom NamedTerm (λ e. e.0) (λ e. e.0) y))
  term_case y =
      let x : NamedTerm-F NamedAtom NamedTerm = map-NamedTerm AtomSo TermSo NamedAtom NamedTerm (λ e. e.0) (λ e. e.0) y in
      term_is (with_scope f s) x
      ∙ ap (λ (a : Atom). of a y.plus) y.atom.1
      ∙ sym (ap (renumbered_term f) (term_is s x) ∙ fold-roll-Term Atom Term (anew.atom_step f) anew.term_step (record { atom = atom_in s y.atom.0; plus = y.plus }))

  pub term_with : (t : NamedTerm) → term_in (with_scope f s) t ≡ renumbered_term f (term_in s t)
  term_with = ind-NamedTerm SameAtom SameTerm
      (λ x y is. subst (λ z. SameAtom (roll-NamedAtom z)) is (atom_case y))
      (λ x y is. subst (λ z. SameTerm (roll-NamedTerm z)) is (term_case y))

  -- ---- expressions

  abbrev SameExpr : NamedExpr → Type 0
  SameExpr e = value_in (with_scope f s) e ≡ renumbered_value f (value_in s e)

  abbrev ExprSo : Type 0
  ExprSo = (e : NamedExpr) × SameExpr e

  expr_is : (t : Scope) (x : NamedExpr-F NamedExpr) → value_in t (roll-NamedExpr x) ≡ value_step t (map-NamedExpr NamedExpr Expr (value_in t) x)
  expr_is t x = fold-roll-NamedExpr Expr (value_step t) x

  expr_layer : (x : Expr-F Expr) (e : Expr) → e ≡ roll-Expr x → renumbered_value f e ≡ anew.value_step f (map-Expr Expr Expr (renumbered_value f) x)
  expr_layer x e is = ap (renumbered_value f) is ∙ fold-roll-Expr Expr (anew.value_step f) x

  expr_case : (y : NamedExpr-F ExprSo) → SameExpr (roll-NamedExpr (map-NamedExpr ExprSo NamedExpr (λ e. e.0) y))
  expr_case (NamedExpr-F.Lit value) =
      expr_is (with_scope f s) (NamedExpr-F.Lit value) ∙ sym (ap (renumbered_value f) (expr_is s (NamedExpr-F.Lit value)) ∙ expr_layer (Expr-F.Lit value) (exprs.Lit value) (literal_expr value))
  expr_case (NamedExpr-F.Read array at) =
      expr_is (with_scope f s) (NamedExpr-F.Read array at)
      ∙ ap (λ (a : ArrayId). exprs.Read a (term_in (with_scope f s) at)) (array_with array)
      ∙ ap (exprs.Read (array_in s array)) (term_with at)
      ∙ sym (ap (renumbered_value f) (expr_is s (NamedExpr-F.Read array at)) ∙ expr_layer (Expr-F.Read (array_in s array) (term_in s at)) (exprs.Read (array_in s array) (term_in s at)) (read_expr (array_in s array) (term_in s at)))
  expr_case (NamedExpr-F.Local name) =
      let local = local_in s name in
      expr_is (with_scope f s) (NamedExpr-F.Local name)
      ∙ ap (λ (n : ℕ). exprs.Local n) (local_with f s name)
      ∙ sym (ap (renumbered_value f) (expr_is s (NamedExpr-F.Local name)) ∙ expr_layer (Expr-F.Local local) (exprs.Local local) (local_expr local))
  expr_case (NamedExpr-F.Op op left right) =
      let x : NamedExpr-F NamedExpr = NamedExpr-F.Op op left.0 right.0 in
      let a = value_in s left.0 in
      let b = value_in s right.0 in
      expr_is (with_scope f s) x
      ∙ ap (λ (e : Expr). exprs.Op op e (value_in (with_scope f s) right.0)) left.1
      ∙ ap (exprs.Op op (renumbered_value f a)) right.1
      ∙ sym (ap (renumbered_value f) (expr_is s x) ∙ expr_layer (Expr-F.Op op a b) (exprs.Op op a b) (op_expr op a b))

  pub value_with : (e : NamedExpr) → value_in (with_scope f s) e ≡ renumbered_value f (value_in s e)
  value_with = ind-NamedExpr SameExpr (λ x y is. subst (λ z. SameExpr (roll-NamedExpr z)) is (expr_case y))
