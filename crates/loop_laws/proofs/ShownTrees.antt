-- Terms and expressions whose names are resolved show the texts of those with names.
use Rattle.std.proofs.Common.{◌≡◌, ℕ, ℤ, Bool, true, false, codes, List, ◌++◌, Option, Some, None, refl, sym, ap, subst, ◌∙◌}
use denote.Hole.Carrier as hole
use Rattle.wave_base.specs.declared.types.ArrayId.{ArrayId}
use Rattle.loop_core.specs.declared.decl.Decl.{Decl}
use Rattle.loop_core.specs.declared.decl.LocalDecl.{LocalDecl}
use Rattle.loop_core.specs.declared.nest.VarId.{VarId}
use Rattle.loop_core.specs.declared.nest.Op.{Op}
use Rattle.loop_core.specs.declared.nest.Op.TheVariants as ops
use Rattle.loop_core.specs.declared.nest.Atom.{Atom}
use Rattle.loop_core.specs.declared.nest.Atom.TheVariants as atoms
use Rattle.loop_core.specs.declared.nest.Term.{Term}
use Rattle.loop_core.specs.declared.nest.Atom.TheOpen.{Atom-F, Term-F}
use Rattle.loop_core.specs.declared.nest.Atom.TheViews.{roll-Atom}
use Rattle.loop_core.specs.declared.nest.Atom.TheFolds.{fold-roll-Atom, fold-roll-Term, map-Atom}
use Rattle.loop_core.specs.declared.nest.Expr.{Expr}
use Rattle.loop_core.specs.declared.nest.Expr.TheVariants as exprs
use Rattle.loop_core.specs.declared.nest.Expr.TheOpen.{Expr-F}
use Rattle.loop_core.specs.declared.nest.Expr.TheViews.{roll-Expr}
use Rattle.loop_core.specs.declared.nest.Expr.TheFolds.{fold-roll-Expr, map-Expr}
use Rattle.loop_lines.specs.declared.tree.ArrayName.{ArrayName}
use Rattle.loop_lines.specs.declared.tree.NamedAtom.{NamedAtom}
use Rattle.loop_lines.specs.declared.tree.NamedAtom.TheOpen.{NamedAtom-F, NamedTerm-F}
use Rattle.loop_lines.specs.declared.tree.NamedAtom.TheViews.{roll-NamedAtom, roll-NamedTerm}
use Rattle.loop_lines.specs.declared.tree.NamedAtom.TheFolds.{fold-NamedAtom, ind-NamedTerm, fold-roll-NamedAtom, fold-roll-NamedTerm, map-NamedAtom, map-NamedTerm}
use Rattle.loop_lines.specs.declared.tree.NamedTerm.{NamedTerm}
use Rattle.loop_lines.specs.declared.tree.NamedExpr.{NamedExpr}
use Rattle.loop_lines.specs.declared.tree.NamedExpr.TheOpen.{NamedExpr-F}
use Rattle.loop_lines.specs.declared.tree.NamedExpr.TheViews.{roll-NamedExpr}
use Rattle.loop_lines.specs.declared.tree.NamedExpr.TheFolds.{ind-NamedExpr, fold-roll-NamedExpr, map-NamedExpr}
use Rattle.loop_lines.specs.Shown.{shown_entry, shown_atom_step, shown_term_step, shown_term, shown_value_step, shown_value}
use Rattle.loop_lines.specs.Showable.{is_shift, bound_step, bound_term_step, is_showable_bound}
use Rattle.loop_syntax.specs.declared.refusal.NameKind.{NameKind}
use Rattle.loop_syntax.specs.declared.scope.Meaning.{Meaning}
use Rattle.loop_syntax.specs.declared.scope.Meaning.TheVariants as meanings
use Rattle.loop_syntax.specs.declared.scope.ArrayUse.{ArrayUse}
use Rattle.loop_syntax.specs.declared.scope.ArrayUse.TheVariants as uses
use Rattle.loop_syntax.specs.Scope.{Scope, meaning_of, use_of}
use Rattle.loop_syntax.specs.NameRules.{variable_fault, local_fault, kept_fault, index_fault, data_fault, atom_fault, term_fault, value_fault, value_step as value_fault_step}
use Rattle.loop_syntax.specs.Resolved.{loop_line, local_number, array_in, variable_in, local_in, atom_step as atom_in_step, term_step as term_in_step, term_in, value_step as value_in_step, value_in}
use Rattle.loop_print.specs.PrintNames.{variable_name, local_name}
use Rattle.loop_print.specs.PrintTerms.{offset_text, entry_text, atom_step, term_step, term_text, atom_text}
use Rattle.loop_print.specs.PrintExprs.{expr_step, expr_text}
use Rattle.loop_syntax.proofs.FewLaws.{either_none}
use Rattle.loop_lines.proofs.Bools.{and_left}
use Rattle.loop_laws.proofs.ShownNames.{IsArray, Knows}

-- ---- one layer of a resolved tree

rolled_zero : roll-Atom Atom-F.Zero ≡ atoms.Zero
unfolding roll-Atom hole.roll
rolled_zero = refl

rolled_rows : roll-Atom Atom-F.N ≡ atoms.N
unfolding roll-Atom hole.roll
rolled_rows = refl

rolled_stored : roll-Atom Atom-F.Nnz ≡ atoms.Nnz
unfolding roll-Atom hole.roll
rolled_stored = refl

rolled_variable : (v : VarId) → roll-Atom (Atom-F.Var v) ≡ atoms.Var v
unfolding roll-Atom hole.roll
rolled_variable v = refl

rolled_entry : (array : ArrayId) (t : Term) → roll-Atom (Atom-F.At array t) ≡ atoms.At array t
unfolding roll-Atom hole.roll
rolled_entry array t = refl

rolled_literal : (z : ℤ) → roll-Expr (Expr-F.Lit z) ≡ exprs.Lit z
unfolding roll-Expr hole.roll
rolled_literal z = refl

rolled_read : (array : ArrayId) (t : Term) → roll-Expr (Expr-F.Read array t) ≡ exprs.Read array t
unfolding roll-Expr hole.roll
rolled_read array t = refl

rolled_local : (local : ℕ) → roll-Expr (Expr-F.Local local) ≡ exprs.Local local
unfolding roll-Expr hole.roll
rolled_local local = refl

rolled_op : (op : Op) (l r : Expr) → roll-Expr (Expr-F.Op op l r) ≡ exprs.Op op l r
unfolding roll-Expr hole.roll
rolled_op op l r = refl

-- ---- where no rule is broken, names are found

pub index_array : (u : ArrayUse) → index_fault u ≡ None → IsArray u
index_array uses.Unknown e = absurd cc
index_array uses.Other e = absurd cc
index_array (uses.Indexes size number) e = tt
index_array (uses.Holds size number) e = absurd cc

pub data_array : (u : ArrayUse) → data_fault u ≡ None → IsArray u
data_array uses.Unknown e = absurd cc
data_array uses.Other e = absurd cc
data_array (uses.Indexes size number) e = absurd cc
data_array (uses.Holds size number) e = tt

pub variable_is : (o : Option Meaning) → variable_fault o ≡ None → o ≡ Some (meanings.Variable (loop_line o))
variable_is None e = absurd cc
variable_is (Some (meanings.Matrix form parts)) e = absurd cc
variable_is (Some (meanings.Indexes size number)) e = absurd cc
variable_is (Some (meanings.Holds size number)) e = absurd cc
variable_is (Some (meanings.Variable line)) e = refl
variable_is (Some (meanings.Local number)) e = absurd cc

pub local_is : (o : Option Meaning) → local_fault o ≡ None → o ≡ Some (meanings.Local (local_number o))
local_is None e = absurd cc
local_is (Some (meanings.Matrix form parts)) e = absurd cc
local_is (Some (meanings.Indexes size number)) e = absurd cc
local_is (Some (meanings.Holds size number)) e = absurd cc
local_is (Some (meanings.Variable line)) e = absurd cc
local_is (Some (meanings.Local number)) e = refl

-- where a name may be kept it is a local's
pub kept_local : (o : Option Meaning) → kept_fault o ≡ None → local_fault o ≡ None
kept_local None e = absurd cc
kept_local (Some (meanings.Matrix form parts)) e = absurd cc
kept_local (Some (meanings.Indexes size number)) e = absurd cc
kept_local (Some (meanings.Holds size number)) e = absurd cc
kept_local (Some (meanings.Variable line)) e = absurd cc
kept_local (Some (meanings.Local number)) e = refl

abbrev atom_in : Scope → NamedAtom → Atom
atom_in s = fold-NamedAtom Atom Term (atom_in_step s) term_in_step

abbrev shown_atom : NamedAtom → ℤ → List ℕ
shown_atom = fold-NamedAtom (ℤ → List ℕ) (List ℕ) shown_atom_step shown_term_step

abbrev fault_in : Scope → NamedAtom → Option NameKind
fault_in s = fold-NamedAtom (Option NameKind) (Option NameKind) (atom_fault s) (λ t. t.atom)

fault_is : (s : Scope) (x : NamedAtom-F NamedAtom NamedTerm) → fault_in s (roll-NamedAtom x) ≡ None → atom_fault s (map-NamedAtom NamedAtom NamedTerm (Option NameKind) (Option NameKind) (fault_in s) (term_fault s) x) ≡ None
fault_is s x e = sym (fold-roll-NamedAtom (Option NameKind) (Option NameKind) (atom_fault s) (λ t. t.atom) x) ∙ e

pub fault_of_value : (s : Scope) (x : NamedExpr-F NamedExpr) → value_fault s (roll-NamedExpr x) ≡ None → value_fault_step s (map-NamedExpr NamedExpr (Option NameKind) (value_fault s) x) ≡ None
fault_of_value s x e = sym (fold-roll-NamedExpr (Option NameKind) (value_fault_step s) x) ∙ e

module _ (decls : List Decl) (locals : List LocalDecl) (s : Scope) (k : Knows decls locals s) where
  -- from one layer of an atom to what it is and to its text
  shows : (x : NamedAtom-F NamedAtom NamedTerm) (y : Atom-F Atom Term) (plus : ℤ) → atom_in_step s (map-NamedAtom NamedAtom NamedTerm Atom Term (atom_in s) (term_in s) x) ≡ roll-Atom y
      → atom_text decls s.blocks (roll-Atom y) plus ≡ shown_atom (roll-NamedAtom x) plus → atom_text decls s.blocks (atom_in s (roll-NamedAtom x)) plus ≡ shown_atom (roll-NamedAtom x) plus
  shows x y plus is e =
      ap (λ (a : Atom). atom_text decls s.blocks a plus) (fold-roll-NamedAtom Atom Term (atom_in_step s) term_in_step x ∙ is) ∙ e

  printed : (y : Atom-F Atom Term) (plus : ℤ) → atom_text decls s.blocks (roll-Atom y) plus ≡ atom_step decls s.blocks (map-Atom Atom Term (ℤ → List ℕ) (List ℕ) (atom_text decls s.blocks) (term_text decls s.blocks) y) plus
  printed y plus = ap (λ (f : ℤ → List ℕ). f plus) (fold-roll-Atom (ℤ → List ℕ) (List ℕ) (atom_step decls s.blocks) term_step y)

  said : (x : NamedAtom-F NamedAtom NamedTerm) (plus : ℤ) → shown_atom (roll-NamedAtom x) plus ≡ shown_atom_step (map-NamedAtom NamedAtom NamedTerm (ℤ → List ℕ) (List ℕ) shown_atom shown_term x) plus
  said x plus = ap (λ (f : ℤ → List ℕ). f plus) (fold-roll-NamedAtom (ℤ → List ℕ) (List ℕ) shown_atom_step shown_term_step x)

  pub entry_is : (array : ArrayName) (a b : List ℕ) → IsArray (use_of s array) → a ≡ b → entry_text decls (array_in s array) a ≡ shown_entry array b
  entry_is array a b is e = ap (λ (name : List ℕ). name ++ codes "[" ++ a ++ codes "]") (k.arrays array is) ∙ ap (shown_entry array) e

  variable_shows : (name : List ℕ) → variable_fault (meaning_of s name) ≡ None → variable_name s.blocks (variable_in s name).line ≡ name
  variable_shows name e = k.variables name (loop_line (meaning_of s name)) (variable_is (meaning_of s name) e)

  pub local_shows : (name : List ℕ) → local_fault (meaning_of s name) ≡ None → local_name locals (local_in s name) ≡ name
  local_shows name e = k.own name (local_number (meaning_of s name)) (local_is (meaning_of s name) e)

  abbrev AtomShows : NamedAtom → Type 0
  AtomShows a = fault_in s a ≡ None → (plus : ℤ) → atom_text decls s.blocks (atom_in s a) plus ≡ shown_atom a plus

  abbrev TermShows : NamedTerm → Type 0
  TermShows t = term_fault s t ≡ None → term_text decls s.blocks (term_in s t) ≡ shown_term t

  abbrev ShowsAtom : Type 0
  ShowsAtom = (a : NamedAtom) × AtomShows a

  abbrev ShowsTerm : Type 0
  ShowsTerm = (t : NamedTerm) × TermShows t

  atom_case : (y : NamedAtom-F ShowsAtom ShowsTerm) → AtomShows (roll-NamedAtom (map-NamedAtom ShowsAtom ShowsTerm NamedAtom NamedTerm (λ e. e.0) (λ e. e.0) y))
  atom_case NamedAtom-F.Zero e plus = shows NamedAtom-F.Zero Atom-F.Zero plus (sym rolled_zero) (printed Atom-F.Zero plus ∙ sym (said NamedAtom-F.Zero plus))
  atom_case NamedAtom-F.N e plus = shows NamedAtom-F.N Atom-F.N plus (sym rolled_rows) (printed Atom-F.N plus ∙ sym (said NamedAtom-F.N plus))
  atom_case NamedAtom-F.Nnz e plus = shows NamedAtom-F.Nnz Atom-F.Nnz plus (sym rolled_stored) (printed Atom-F.Nnz plus ∙ sym (said NamedAtom-F.Nnz plus))
  atom_case (NamedAtom-F.Var name) e plus =
      let v = variable_in s name in
      let is = variable_shows name (fault_is s (NamedAtom-F.Var name) e) in
      shows (NamedAtom-F.Var name) (Atom-F.Var v) plus (sym (rolled_variable v)) (printed (Atom-F.Var v) plus ∙ ap (λ (w : List ℕ). w ++ offset_text plus) is ∙ sym (said (NamedAtom-F.Var name) plus))
  atom_case (NamedAtom-F.At array inner) e plus =
      let x : NamedAtom-F NamedAtom NamedTerm = NamedAtom-F.At array inner.0 in
      let y : Atom-F Atom Term = Atom-F.At (array_in s array) (term_in s inner.0) in
      let both = either_none (index_fault (use_of s array)) (term_fault s inner.0) (fault_is s x e) in
      let is = entry_is array (term_text decls s.blocks (term_in s inner.0)) (shown_term inner.0) (index_array (use_of s array) both.0) (inner.1 both.1) in
      shows x y plus (sym (rolled_entry (array_in s array) (term_in s inner.0))) (printed y plus ∙ ap (λ (w : List ℕ). w ++ offset_text plus) is ∙ sym (said x plus))

  term_case : (y : NamedTerm-F ShowsAtom ShowsTerm) → TermShows (roll-NamedTerm (map-NamedTerm ShowsAtom ShowsTerm NamedAtom NamedTerm (λ e. e.0) (λ e. e.0) y))
  term_case y e =
      let x : NamedTerm-F NamedAtom NamedTerm = map-NamedTerm ShowsAtom ShowsTerm NamedAtom NamedTerm (λ e. e.0) (λ e. e.0) y in
      let fine : fault_in s y.atom.0 ≡ None = sym (fold-roll-NamedTerm (Option NameKind) (Option NameKind) (atom_fault s) (λ t. t.atom) x) ∙ e in
      let z : Term-F Atom Term = record { atom = atom_in s y.atom.0; plus = y.plus } in
      ap (term_text decls s.blocks) (fold-roll-NamedTerm Atom Term (atom_in_step s) term_in_step x)
      ∙ fold-roll-Term (ℤ → List ℕ) (List ℕ) (atom_step decls s.blocks) term_step z
      ∙ y.atom.1 fine y.plus
      ∙ sym (fold-roll-NamedTerm (ℤ → List ℕ) (List ℕ) shown_atom_step shown_term_step x)

  pub term_shows : (t : NamedTerm) → TermShows t
  term_shows = ind-NamedTerm AtomShows TermShows
      (λ x y is. subst (λ z. AtomShows (roll-NamedAtom z)) is (atom_case y))
      (λ x y is. subst (λ z. TermShows (roll-NamedTerm z)) is (term_case y))

  -- ---- expressions

  abbrev ValueShows : NamedExpr → Type 0
  ValueShows v = value_fault s v ≡ None → (least : ℕ) → expr_text decls locals s.blocks (value_in s v) least ≡ shown_value v least

  abbrev ShowsValue : Type 0
  ShowsValue = (v : NamedExpr) × ValueShows v

  value_is : (x : NamedExpr-F NamedExpr) (y : Expr-F Expr) (least : ℕ) → value_in_step s (map-NamedExpr NamedExpr Expr (value_in s) x) ≡ roll-Expr y
      → expr_step decls locals s.blocks (map-Expr Expr (ℕ → List ℕ) (expr_text decls locals s.blocks) y) least ≡ shown_value_step (map-NamedExpr NamedExpr (ℕ → List ℕ) shown_value x) least
      → expr_text decls locals s.blocks (value_in s (roll-NamedExpr x)) least ≡ shown_value (roll-NamedExpr x) least
  value_is x y least is e =
      ap (λ (v : Expr). expr_text decls locals s.blocks v least) (fold-roll-NamedExpr Expr (value_in_step s) x ∙ is)
      ∙ ap (λ (f : ℕ → List ℕ). f least) (fold-roll-Expr (ℕ → List ℕ) (expr_step decls locals s.blocks) y) ∙ e
      ∙ sym (ap (λ (f : ℕ → List ℕ). f least) (fold-roll-NamedExpr (ℕ → List ℕ) shown_value_step x))

  op_shows : (op : Op) (a b c d : ℕ → List ℕ) (least : ℕ) → ((n : ℕ) → a n ≡ c n) → ((n : ℕ) → b n ≡ d n) → expr_step decls locals s.blocks (Expr-F.Op op a b) least ≡ shown_value_step (NamedExpr-F.Op op c d) least
  op_shows ops.Add a b c d least e f = rw (e 0, f 1) refl
  op_shows ops.Sub a b c d least e f = rw (e 0, f 1) refl
  op_shows ops.Mul a b c d least e f = rw (e 1, f 2) refl
  op_shows ops.Quot a b c d least e f = rw (e 1, f 2) refl
  op_shows ops.Min a b c d least e f = rw (e 0, f 0) refl
  op_shows ops.Max a b c d least e f = rw (e 0, f 0) refl

  value_case : (y : NamedExpr-F ShowsValue) → ValueShows (roll-NamedExpr (map-NamedExpr ShowsValue NamedExpr (λ e. e.0) y))
  value_case (NamedExpr-F.Lit z) e least = value_is (NamedExpr-F.Lit z) (Expr-F.Lit z) least (sym (rolled_literal z)) refl
  value_case (NamedExpr-F.Read array at) e least =
      let both = either_none (data_fault (use_of s array)) (term_fault s at) (fault_of_value s (NamedExpr-F.Read array at) e) in
      value_is (NamedExpr-F.Read array at) (Expr-F.Read (array_in s array) (term_in s at)) least (sym (rolled_read (array_in s array) (term_in s at)))
      (entry_is array (term_text decls s.blocks (term_in s at)) (shown_term at) (data_array (use_of s array) both.0) (term_shows at both.1))
  value_case (NamedExpr-F.Local name) e least =
      value_is (NamedExpr-F.Local name) (Expr-F.Local (local_in s name)) least (sym (rolled_local (local_in s name))) (local_shows name (fault_of_value s (NamedExpr-F.Local name) e))
  value_case (NamedExpr-F.Op op l r) e least =
      let both = either_none (value_fault s l.0) (value_fault s r.0) (fault_of_value s (NamedExpr-F.Op op l.0 r.0) e) in
      value_is (NamedExpr-F.Op op l.0 r.0) (Expr-F.Op op (value_in s l.0) (value_in s r.0)) least (sym (rolled_op op (value_in s l.0) (value_in s r.0)))
      (op_shows op (expr_text decls locals s.blocks (value_in s l.0)) (expr_text decls locals s.blocks (value_in s r.0)) (shown_value l.0) (shown_value r.0) least (l.1 both.0) (r.1 both.1))

  pub value_shows : (v : NamedExpr) → ValueShows v
  value_shows = ind-NamedExpr ValueShows (λ x y is. subst (λ z. ValueShows (roll-NamedExpr z)) is (value_case y))

-- ---- a bound has no names

abbrev bound_atom : NamedAtom → Bool
bound_atom = fold-NamedAtom Bool Bool bound_step bound_term_step

abbrev AtomIsPlain : Scope → NamedAtom → Type 0
AtomIsPlain s a = bound_atom a ≡ true → fault_in s a ≡ None

abbrev TermIsPlain : Scope → NamedTerm → Type 0
TermIsPlain s t = is_showable_bound t ≡ true → term_fault s t ≡ None

bound_is : (x : NamedAtom-F NamedAtom NamedTerm) → bound_atom (roll-NamedAtom x) ≡ true → bound_step (map-NamedAtom NamedAtom NamedTerm Bool Bool bound_atom is_showable_bound x) ≡ true
bound_is x e = sym (fold-roll-NamedAtom Bool Bool bound_step bound_term_step x) ∙ e

plain_case : (s : Scope) (x : NamedAtom-F NamedAtom NamedTerm) → AtomIsPlain s (roll-NamedAtom x)
plain_case s NamedAtom-F.Zero e = fold-roll-NamedAtom (Option NameKind) (Option NameKind) (atom_fault s) (λ t. t.atom) NamedAtom-F.Zero
plain_case s NamedAtom-F.N e = fold-roll-NamedAtom (Option NameKind) (Option NameKind) (atom_fault s) (λ t. t.atom) NamedAtom-F.N
plain_case s NamedAtom-F.Nnz e = fold-roll-NamedAtom (Option NameKind) (Option NameKind) (atom_fault s) (λ t. t.atom) NamedAtom-F.Nnz
plain_case s (NamedAtom-F.Var name) e = let never : false ≡ true = bound_is (NamedAtom-F.Var name) e in absurd cc
plain_case s (NamedAtom-F.At array inner) e = let never : false ≡ true = bound_is (NamedAtom-F.At array inner) e in absurd cc

abbrev PlainAtom : Scope → Type 0
PlainAtom s = (a : NamedAtom) × AtomIsPlain s a

abbrev PlainTerm : Scope → Type 0
PlainTerm s = (t : NamedTerm) × TermIsPlain s t

plain_term_case : (s : Scope) (y : NamedTerm-F (PlainAtom s) (PlainTerm s)) → TermIsPlain s (roll-NamedTerm (map-NamedTerm (PlainAtom s) (PlainTerm s) NamedAtom NamedTerm (λ e. e.0) (λ e. e.0) y))
plain_term_case s y e =
    let x : NamedTerm-F NamedAtom NamedTerm = map-NamedTerm (PlainAtom s) (PlainTerm s) NamedAtom NamedTerm (λ e. e.0) (λ e. e.0) y in
    let fine = and_left (bound_atom y.atom.0) (is_shift y.plus) (sym (fold-roll-NamedTerm Bool Bool bound_step bound_term_step x) ∙ e) in
    fold-roll-NamedTerm (Option NameKind) (Option NameKind) (atom_fault s) (λ t. t.atom) x ∙ y.atom.1 fine

pub bound_plain : (s : Scope) (t : NamedTerm) → is_showable_bound t ≡ true → term_fault s t ≡ None
bound_plain s = ind-NamedTerm (AtomIsPlain s) (TermIsPlain s)
    (λ x y is. plain_case s x)
    (λ x y is. subst (λ z. TermIsPlain s (roll-NamedTerm z)) is (plain_term_case s y))
