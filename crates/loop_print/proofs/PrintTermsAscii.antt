-- The texts of terms and expressions are ASCII where those of the names are.
use Rattle.std.proofs.Common.{ℕ, ◌+◌, Bool, true, false, nat_lt, int_lt, if◌then◌else◌, List, [], ◌++◌, refl, sym, subst, ℤ, pos, codes}
use Rattle.std.specs.Fmt.{signed_decimal}
use Rattle.wave_base.specs.declared.types.ArrayId.{ArrayId}
use Rattle.loop_core.specs.declared.decl.Decl.{Decl}
use Rattle.loop_core.specs.declared.decl.LocalDecl.{LocalDecl}
use Rattle.loop_core.specs.declared.nest.Op.{Op}
use Rattle.loop_core.specs.declared.nest.Op.TheVariants.{Add, Sub, Mul, Quot, Min, Max}
use Rattle.loop_core.specs.declared.nest.Atom.{Atom}
use Rattle.loop_core.specs.declared.nest.Term.{Term}
use Rattle.loop_core.specs.declared.nest.Atom.TheOpen.{Atom-F, Term-F}
use Rattle.loop_core.specs.declared.nest.Atom.TheViews.{roll-Atom, roll-Term}
use Rattle.loop_core.specs.declared.nest.Atom.TheFolds.{ind-Term, fold-roll-Atom, fold-roll-Term, map-Atom, map-Term}
use Rattle.loop_core.specs.declared.nest.Expr.{Expr}
use Rattle.loop_core.specs.declared.nest.Expr.TheOpen.{Expr-F}
use Rattle.loop_core.specs.declared.nest.Expr.TheViews.{roll-Expr}
use Rattle.loop_core.specs.declared.nest.Expr.TheFolds.{ind-Expr, fold-roll-Expr, map-Expr}
use Rattle.loop_print.specs.PrintNames.{Block, array_name, local_name, variable_name}
use Rattle.loop_print.specs.PrintTerms.{number_text, offset_text, entry_text, atom_step, term_step, atom_text, term_text}
use Rattle.loop_print.specs.PrintExprs.{opened, closed, between, called, op_text, expr_step, expr_text}
use Rattle.loop_print.proofs.PrintAscii.{Small, word, ◌&◌, signed_small}

number_small : (z : ℤ) → Small (number_text z)
number_small z =
    elim (int_lt z (pos 0)) as (λ b. Small (if b then codes "0" ++ signed_decimal z else signed_decimal z)) [ true ↦ word (codes "0") refl & signed_small z | false ↦ signed_small z ]

offset_small : (z : ℤ) → Small (offset_text z)
offset_small z =
    let low : Small (if int_lt z (pos 0) then signed_decimal z else []) =
    elim (int_lt z (pos 0)) as (λ b. Small (if b then signed_decimal z else [])) [ true ↦ signed_small z | false ↦ word [] refl ] in
    elim (int_lt (pos 0) z) as (λ b. Small (if b then codes "+" ++ signed_decimal z else (if int_lt z (pos 0) then signed_decimal z else []))) [ true ↦ word (codes "+") refl & signed_small z | false ↦ low ]

opened_small : (b : Bool) → Small (opened b)
opened_small true = word (codes "(") refl
opened_small false = word [] refl

closed_small : (b : Bool) → Small (closed b)
closed_small true = word (codes ")") refl
closed_small false = word [] refl

between_small : (sign : List ℕ) (rank : ℕ) (left right : ℕ → List ℕ) → Small sign → ((n : ℕ) → Small (left n)) → ((n : ℕ) → Small (right n)) → (least : ℕ) → Small (between sign rank left right least)
between_small sign rank left right s l r least =
    let lower = nat_lt rank least in
    opened_small lower & l rank & s & r (rank + 1) & closed_small lower

called_small : (name left right : List ℕ) → Small name → Small left → Small right → Small (called name left right)
called_small name left right h l r = h & word (codes "(") refl & l & word (codes ", ") refl & r & word (codes ")") refl

op_small : (op : Op) (left right : ℕ → List ℕ) → ((n : ℕ) → Small (left n)) → ((n : ℕ) → Small (right n)) → (least : ℕ) → Small (op_text op left right least)
op_small Add left right l r least = between_small (codes " + ") 0 left right (word (codes " + ") refl) l r least
op_small Sub left right l r least = between_small (codes " - ") 0 left right (word (codes " - ") refl) l r least
op_small Mul left right l r least = between_small (codes " * ") 1 left right (word (codes " * ") refl) l r least
op_small Quot left right l r least = between_small (codes " / ") 1 left right (word (codes " / ") refl) l r least
op_small Min left right l r least = called_small (codes "min") (left 0) (right 0) (word (codes "min") refl) (l 0) (r 0)
op_small Max left right l r least = called_small (codes "max") (left 0) (right 0) (word (codes "max") refl) (l 0) (r 0)

module _ (decls : List Decl) (blocks : List Block) (arrays : (array : ArrayId) → Small (array_name decls array)) (variables : (line : ℕ) → Small (variable_name blocks line)) where
  pub entry_small : (array : ArrayId) (inner : List ℕ) → Small inner → Small (entry_text decls array inner)
  entry_small array inner h = arrays array & word (codes "[") refl & h & word (codes "]") refl

  abbrev IsSmallAtom : Atom → Type 0
  IsSmallAtom a = (plus : ℤ) → Small (atom_text decls blocks a plus)

  abbrev IsSmallTerm : Term → Type 0
  IsSmallTerm t = Small (term_text decls blocks t)

  abbrev SmallAtom : Type 0
  SmallAtom = (a : Atom) × IsSmallAtom a

  abbrev SmallTerm : Type 0
  SmallTerm = (t : Term) × IsSmallTerm t

  atom_case : (y : Atom-F SmallAtom SmallTerm) (plus : ℤ) → Small (atom_text decls blocks (roll-Atom (map-Atom SmallAtom SmallTerm Atom Term (λ e. e.0) (λ e. e.0) y)) plus)
  atom_case Atom-F.Zero plus =
      subst (λ f. Small (f plus)) (sym (fold-roll-Atom (ℤ → List ℕ) (List ℕ) (atom_step decls blocks) term_step Atom-F.Zero)) (number_small plus)
  atom_case Atom-F.N plus =
      subst (λ f. Small (f plus)) (sym (fold-roll-Atom (ℤ → List ℕ) (List ℕ) (atom_step decls blocks) term_step Atom-F.N)) (word (codes "n") refl & offset_small plus)
  atom_case Atom-F.Nnz plus =
      subst (λ f. Small (f plus)) (sym (fold-roll-Atom (ℤ → List ℕ) (List ℕ) (atom_step decls blocks) term_step Atom-F.Nnz)) (word (codes "nnz") refl & offset_small plus)
  atom_case (Atom-F.Var var) plus =
      subst (λ f. Small (f plus)) (sym (fold-roll-Atom (ℤ → List ℕ) (List ℕ) (atom_step decls blocks) term_step (Atom-F.Var var)))
      (variables var.line & offset_small plus)
  atom_case (Atom-F.At array inner) plus =
      subst (λ f. Small (f plus)) (sym (fold-roll-Atom (ℤ → List ℕ) (List ℕ) (atom_step decls blocks) term_step (Atom-F.At array inner.0)))
      (entry_small array (term_text decls blocks inner.0) inner.1 & offset_small plus)

  term_case : (y : Term-F SmallAtom SmallTerm) → Small (term_text decls blocks (roll-Term (map-Term SmallAtom SmallTerm Atom Term (λ e. e.0) (λ e. e.0) y)))
  term_case y =
      subst Small (sym (fold-roll-Term (ℤ → List ℕ) (List ℕ) (atom_step decls blocks) term_step (map-Term SmallAtom SmallTerm Atom Term (λ e. e.0) (λ e. e.0) y))) (y.atom.1 y.plus)

  pub term_small : (t : Term) → Small (term_text decls blocks t)
  term_small = ind-Term IsSmallAtom IsSmallTerm
      (λ x y is plus. subst (λ z. Small (atom_text decls blocks (roll-Atom z) plus)) is (atom_case y plus))
      (λ x y is. subst (λ z. Small (term_text decls blocks (roll-Term z))) is (term_case y))

  module _ (locals : List LocalDecl) (own : (local : ℕ) → Small (local_name locals local)) where
    abbrev IsSmallExpr : Expr → Type 0
    IsSmallExpr e = (least : ℕ) → Small (expr_text decls locals blocks e least)

    abbrev SmallExpr : Type 0
    SmallExpr = (e : Expr) × IsSmallExpr e

    expr_case : (y : Expr-F SmallExpr) (least : ℕ) → Small (expr_text decls locals blocks (roll-Expr (map-Expr SmallExpr Expr (λ e. e.0) y)) least)
    expr_case (Expr-F.Lit value) least =
        subst (λ f. Small (f least)) (sym (fold-roll-Expr (ℕ → List ℕ) (expr_step decls locals blocks) (Expr-F.Lit value))) (signed_small value)
    expr_case (Expr-F.Read array at) least =
        subst (λ f. Small (f least)) (sym (fold-roll-Expr (ℕ → List ℕ) (expr_step decls locals blocks) (Expr-F.Read array at)))
        (entry_small array (term_text decls blocks at) (term_small at))
    expr_case (Expr-F.Local local) least =
        subst (λ f. Small (f least)) (sym (fold-roll-Expr (ℕ → List ℕ) (expr_step decls locals blocks) (Expr-F.Local local))) (own local)
    expr_case (Expr-F.Op op left right) least =
        subst (λ f. Small (f least)) (sym (fold-roll-Expr (ℕ → List ℕ) (expr_step decls locals blocks) (Expr-F.Op op left.0 right.0)))
        (op_small op (expr_text decls locals blocks left.0) (expr_text decls locals blocks right.0) left.1 right.1 least)

    pub expr_small : (e : Expr) (least : ℕ) → Small (expr_text decls locals blocks e least)
    expr_small = ind-Expr IsSmallExpr (λ x y is least. subst (λ z. Small (expr_text decls locals blocks (roll-Expr z) least)) is (expr_case y least))
