-- A nest whose lines have other numbers.
use Rattle.std.specs.Prelude.{ℕ, map}
use Rattle.loop_core.specs.declared.decl.Decl.{Decl}
use Rattle.loop_core.specs.declared.decl.LocalDecl.{LocalDecl}
use Rattle.loop_core.specs.declared.decl.PropDecl.{PropDecl}
use Rattle.loop_core.specs.declared.decl.PropKind.{PropKind}
use Rattle.loop_core.specs.declared.decl.PropKind.TheVariants.{Range}
use Rattle.loop_core.specs.declared.nest.VarId.{VarId}
use Rattle.loop_core.specs.declared.nest.Atom.{Atom}
use Rattle.loop_core.specs.declared.nest.Atom.TheVariants as atoms
use Rattle.loop_core.specs.declared.nest.Atom.TheOpen.{Atom-F, Term-F}
use Rattle.loop_core.specs.declared.nest.Atom.TheFolds.{fold-Term}
use Rattle.loop_core.specs.declared.nest.Term.{Term}
use Rattle.loop_core.specs.declared.nest.Expr.{Expr}
use Rattle.loop_core.specs.declared.nest.Expr.TheVariants as exprs
use Rattle.loop_core.specs.declared.nest.Expr.TheOpen.{Expr-F}
use Rattle.loop_core.specs.declared.nest.Expr.TheFolds.{fold-Expr}
use Rattle.loop_core.specs.declared.nest.Item.{Item}
use Rattle.loop_core.specs.declared.nest.Item.TheVariants as items
use Rattle.loop_core.specs.declared.nest.Item.TheOpen.{Item-F}
use Rattle.loop_core.specs.declared.nest.Item.TheFolds.{fold-Item}
use Rattle.loop_core.specs.declared.nest.Nest.{Nest}

-- a variable is named by the line of its loop
abbrev pub renumbered_variable : (ℕ → ℕ) → VarId → VarId
renumbered_variable f var = record { line = f var.line; side = var.side }

abbrev pub atom_step : (ℕ → ℕ) → Atom-F Atom Term → Atom
atom_step f Atom-F.Zero = atoms.Zero
atom_step f Atom-F.N = atoms.N
atom_step f Atom-F.Nnz = atoms.Nnz
atom_step f (Atom-F.Var var) = atoms.Var (renumbered_variable f var)
atom_step f (Atom-F.At array inner) = atoms.At array inner

abbrev pub term_step : Term-F Atom Term → Term
term_step t = record { atom = t.atom; plus = t.plus }

abbrev pub renumbered_term : (ℕ → ℕ) → Term → Term
renumbered_term f = fold-Term Atom Term (atom_step f) term_step

abbrev pub value_step : (ℕ → ℕ) → Expr-F Expr → Expr
value_step f (Expr-F.Lit value) = exprs.Lit value
value_step f (Expr-F.Read array at) = exprs.Read array (renumbered_term f at)
value_step f (Expr-F.Local local) = exprs.Local local
value_step f (Expr-F.Op op left right) = exprs.Op op left right

abbrev pub renumbered_value : (ℕ → ℕ) → Expr → Expr
renumbered_value f = fold-Expr Expr (value_step f)

abbrev pub item_step : (ℕ → ℕ) → Item-F Item → Item
item_step f (Item-F.For line name lo hi body) = items.For (f line) name (renumbered_term f lo) (renumbered_term f hi) body
item_step f (Item-F.When line rel left right body) = items.When (f line) rel (renumbered_term f left) (renumbered_term f right) body
item_step f (Item-F.Set line array at value) = items.Set (f line) array (renumbered_term f at) (renumbered_value f value)
item_step f (Item-F.Keep line local value) = items.Keep (f line) local (renumbered_value f value)

abbrev pub renumbered_item : (ℕ → ℕ) → Item → Item
renumbered_item f = fold-Item Item (item_step f)

abbrev pub renumbered_decl : (ℕ → ℕ) → Decl → Decl
renumbered_decl f d = record { line = f d.line; name = d.name; kind = d.kind }

abbrev pub renumbered_local : (ℕ → ℕ) → LocalDecl → LocalDecl
renumbered_local f l = record { line = f l.line; name = l.name }

-- only the bounds of a range are terms
abbrev pub renumbered_kind : (ℕ → ℕ) → PropKind → PropKind
renumbered_kind f (Range array lo hi) = Range array (renumbered_term f lo) (renumbered_term f hi)
renumbered_kind f kind = kind

abbrev pub renumbered_prop : (ℕ → ℕ) → PropDecl → PropDecl
renumbered_prop f p = record { line = f p.line; kind = renumbered_kind f p.kind }

-- the nest with f of each line's number in its place
abbrev pub renumbered : (ℕ → ℕ) → Nest → Nest
renumbered f nest = record {
  decls = map (renumbered_decl f) nest.decls;
  props = map (renumbered_prop f) nest.props;
  locals = map (renumbered_local f) nest.locals;
  line = f nest.line;
  name = nest.name;
  body = map (renumbered_item f) nest.body;
}
