-- Lines with their names resolved: arrays and locals by their numbers, variables by the lines of their loops.
use Rattle.std.specs.Prelude.{ℕ, List, [], ◌∷◌, Option, Some}
use Rattle.wave_base.specs.declared.types.ArrayId.{ArrayId}
use Rattle.loop_core.specs.declared.decl.Decl.{Decl}
use Rattle.loop_core.specs.declared.decl.DeclKind.TheVariants as kinds
use Rattle.loop_core.specs.declared.decl.LocalDecl.{LocalDecl}
use Rattle.loop_core.specs.declared.decl.PropKind.{PropKind}
use Rattle.loop_core.specs.declared.decl.PropKind.TheVariants as resolved
use Rattle.loop_core.specs.declared.decl.PropDecl.{PropDecl}
use Rattle.loop_core.specs.declared.nest.Side.TheVariants as sides
use Rattle.loop_core.specs.declared.nest.VarId.{VarId}
use Rattle.loop_core.specs.declared.nest.Atom.{Atom}
use Rattle.loop_core.specs.declared.nest.Atom.TheVariants as atoms
use Rattle.loop_core.specs.declared.nest.Term.{Term}
use Rattle.loop_core.specs.declared.nest.Expr.{Expr}
use Rattle.loop_core.specs.declared.nest.Expr.TheVariants as exprs
use Rattle.loop_lines.specs.declared.line.Line.{Line}
use Rattle.loop_lines.specs.declared.line.Line.TheVariants as lines
use Rattle.loop_lines.specs.declared.line.NamedProp.{NamedProp}
use Rattle.loop_lines.specs.declared.line.NamedProp.TheVariants as props
use Rattle.loop_lines.specs.declared.tree.ArrayName.{ArrayName}
use Rattle.loop_lines.specs.declared.tree.NamedAtom.TheOpen.{NamedAtom-F, NamedTerm-F}
use Rattle.loop_lines.specs.declared.tree.NamedAtom.TheFolds.{fold-NamedTerm}
use Rattle.loop_lines.specs.declared.tree.NamedTerm.{NamedTerm}
use Rattle.loop_lines.specs.declared.tree.NamedExpr.{NamedExpr}
use Rattle.loop_lines.specs.declared.tree.NamedExpr.TheOpen.{NamedExpr-F}
use Rattle.loop_lines.specs.declared.tree.NamedExpr.TheFolds.{fold-NamedExpr}
use Rattle.loop_syntax.specs.declared.scope.Meaning.{Meaning}
use Rattle.loop_syntax.specs.declared.scope.Meaning.TheVariants as meanings
use Rattle.loop_syntax.specs.declared.scope.ArrayUse.{ArrayUse}
use Rattle.loop_syntax.specs.declared.scope.ArrayUse.TheVariants as uses
use Rattle.loop_syntax.specs.declared.items.Head.TheVariants as heads
use Rattle.loop_syntax.specs.Scope.{Scope, meaning_of, use_of}
use Rattle.loop_syntax.specs.Nesting.{Mark, Opens, Sets, Keeps, Ends}

-- the number of an array, and 0 where no array stands
abbrev pub number_of : ArrayUse → ℕ
number_of (uses.Indexes size number) = number
number_of (uses.Holds size number) = number
number_of _ = 0

abbrev pub array_in : Scope → ArrayName → ArrayId
array_in s array = record { 0 = number_of (use_of s array) }

-- the line of a variable's loop, and 0 where no variable stands
abbrev pub loop_line : Option Meaning → ℕ
loop_line (Some (meanings.Variable line)) = line
loop_line _ = 0

abbrev pub variable_in : Scope → List ℕ → VarId
variable_in s name = record { line = loop_line (meaning_of s name); side = sides.Own }

-- the number of a local, and 0 where no local stands
abbrev pub local_number : Option Meaning → ℕ
local_number (Some (meanings.Local number)) = number
local_number _ = 0

abbrev pub local_in : Scope → List ℕ → ℕ
local_in s name = local_number (meaning_of s name)

abbrev pub atom_step : Scope → NamedAtom-F Atom Term → Atom
atom_step s NamedAtom-F.Zero = atoms.Zero
atom_step s NamedAtom-F.N = atoms.N
atom_step s NamedAtom-F.Nnz = atoms.Nnz
atom_step s (NamedAtom-F.Var name) = atoms.Var (variable_in s name)
atom_step s (NamedAtom-F.At array inner) = atoms.At (array_in s array) inner

abbrev pub term_step : NamedTerm-F Atom Term → Term
term_step t = record { atom = t.atom; plus = t.plus }

abbrev pub term_in : Scope → NamedTerm → Term
term_in s = fold-NamedTerm Atom Term (atom_step s) term_step

abbrev pub value_step : Scope → NamedExpr-F Expr → Expr
value_step s (NamedExpr-F.Lit value) = exprs.Lit value
value_step s (NamedExpr-F.Read array at) = exprs.Read (array_in s array) (term_in s at)
value_step s (NamedExpr-F.Local name) = exprs.Local (local_in s name)
value_step s (NamedExpr-F.Op op left right) = exprs.Op op left right

abbrev pub value_in : Scope → NamedExpr → Expr
value_in s = fold-NamedExpr Expr (value_step s)

abbrev pub prop_in : Scope → NamedProp → PropKind
prop_in s (props.Range f lo hi) = resolved.Range (array_in s f) (term_in s lo) (term_in s hi)
prop_in s (props.Rising p) = resolved.Rising (array_in s p)
prop_in s (props.Strict p) = resolved.Strict (array_in s p)
prop_in s (props.Injective f) = resolved.Injective (array_in s f)
prop_in s (props.Sorted f p) = resolved.Sorted (array_in s f) (array_in s p)
prop_in s (props.Below f p) = resolved.Below (array_in s f) (array_in s p)
prop_in s (props.Upto f p) = resolved.Upto (array_in s f) (array_in s p)
prop_in s (props.Diagonal d f p) = resolved.Diagonal (array_in s d) (array_in s f) (array_in s p)
prop_in s (props.Before f g) = resolved.Before (array_in s f) (array_in s g)

-- The parts of a nest that lines are.

abbrev pub declaration : ℕ → Line → List Decl
declaration n (lines.Matrix name form) = record { line = n; name = name; kind = kinds.Matrix form } ∷ []
declaration n (lines.Index name size) = record { line = n; name = name; kind = kinds.Index size } ∷ []
declaration n (lines.Vector name size source) = record { line = n; name = name; kind = kinds.Vector size source } ∷ []
declaration n _ = []

abbrev pub local : ℕ → Line → List LocalDecl
local n (lines.Local name) = record { line = n; name = name } ∷ []
local n _ = []

abbrev pub property : Scope → ℕ → Line → List PropDecl
property s n (lines.Prop prop) = record { line = n; kind = prop_in s prop } ∷ []
property s n _ = []

abbrev pub mark : Scope → ℕ → Line → List Mark
mark s n (lines.For name lo hi) = Opens n (heads.For name (term_in s lo) (term_in s hi)) ∷ []
mark s n (lines.When rel left right) = Opens n (heads.When rel (term_in s left) (term_in s right)) ∷ []
mark s n (lines.Set array at value) = Sets n (array_in s array) (term_in s at) (value_in s value) ∷ []
mark s n (lines.Keep name value) = Keeps n (local_in s name) (value_in s value) ∷ []
mark s n lines.End = Ends ∷ []
mark s n _ = []

abbrev pub outer : ℕ → Line → List (ℕ × List ℕ)
outer n (lines.Loop name) = (n, name) ∷ []
outer n _ = []
