-- The rules on names, on each line from left to right.
use Rattle.std.specs.Prelude.{ℕ, if◌then◌else◌, List, [], ◌∷◌, Option, Some, None}
use Rattle.loop_core.specs.declared.decl.Size.{Size}
use Rattle.loop_core.specs.declared.decl.Size.TheVariants as sizes
use Rattle.loop_core.specs.IsNest.{same_size}
use Rattle.loop_lines.specs.declared.line.Line.{Line}
use Rattle.loop_lines.specs.declared.line.Line.TheVariants as lines
use Rattle.loop_lines.specs.declared.line.NamedProp.{NamedProp}
use Rattle.loop_lines.specs.declared.line.NamedProp.TheVariants as props
use Rattle.loop_lines.specs.declared.tree.ArrayName.{ArrayName}
use Rattle.loop_lines.specs.declared.tree.NamedAtom.TheOpen.{NamedAtom-F}
use Rattle.loop_lines.specs.declared.tree.NamedAtom.TheFolds.{fold-NamedTerm}
use Rattle.loop_lines.specs.declared.tree.NamedTerm.{NamedTerm}
use Rattle.loop_lines.specs.declared.tree.NamedExpr.{NamedExpr}
use Rattle.loop_lines.specs.declared.tree.NamedExpr.TheOpen.{NamedExpr-F}
use Rattle.loop_lines.specs.declared.tree.NamedExpr.TheFolds.{fold-NamedExpr}
use Rattle.loop_lines.specs.Reading.{or_else}
use Rattle.loop_lines.specs.Words.{either}
use Rattle.loop_syntax.specs.declared.refusal.NameKind.{NameKind}
use Rattle.loop_syntax.specs.declared.refusal.NameKind.TheVariants.{Unknown, Twice, WrongKind, WrittenIndex}
use Rattle.loop_syntax.specs.declared.scope.Meaning.{Meaning}
use Rattle.loop_syntax.specs.declared.scope.Meaning.TheVariants as meanings
use Rattle.loop_syntax.specs.declared.scope.ArrayUse.{ArrayUse}
use Rattle.loop_syntax.specs.declared.scope.ArrayUse.TheVariants as uses
use Rattle.loop_syntax.specs.declared.numbered.Numbered.{Numbered}
use Rattle.loop_syntax.specs.Scope.{Scope, meaning_of, scope_after, use_of}

-- a name that is declared, or a loop's variable, isn't known before
abbrev pub new_fault : Option Meaning → Option NameKind
new_fault None = None
new_fault (Some meaning) = Some Twice

-- a name alone in a term is a variable
abbrev pub variable_fault : Option Meaning → Option NameKind
variable_fault None = Some Unknown
variable_fault (Some (meanings.Variable line)) = None
variable_fault (Some _) = Some WrongKind

-- a name alone in an expression is a local
abbrev pub local_fault : Option Meaning → Option NameKind
local_fault None = Some Unknown
local_fault (Some (meanings.Local number)) = None
local_fault (Some _) = Some WrongKind

-- a name alone that is written is a local
abbrev pub kept_fault : Option Meaning → Option NameKind
kept_fault (Some (meanings.Indexes size number)) = Some WrittenIndex
kept_fault meaning = local_fault meaning

-- an index array in a term or a property
abbrev pub index_fault : ArrayUse → Option NameKind
index_fault uses.Unknown = Some Unknown
index_fault uses.Other = Some WrongKind
index_fault (uses.Indexes size number) = None
index_fault (uses.Holds size number) = Some WrongKind

-- an index array of a size
abbrev pub sized_fault : Size → ArrayUse → Option NameKind
sized_fault asked (uses.Indexes size number) = if same_size size asked then None else Some WrongKind
sized_fault asked array = index_fault array

-- an index array of the size of another one
abbrev pub alike_fault : ArrayUse → ArrayUse → Option NameKind
alike_fault (uses.Indexes size number) second = sized_fault size second
alike_fault _ second = None

-- a data array that is read
abbrev pub data_fault : ArrayUse → Option NameKind
data_fault uses.Unknown = Some Unknown
data_fault uses.Other = Some WrongKind
data_fault (uses.Indexes size number) = Some WrongKind
data_fault (uses.Holds size number) = None

-- a data array that is written
abbrev pub target_fault : ArrayUse → Option NameKind
target_fault (uses.Indexes size number) = Some WrittenIndex
target_fault array = data_fault array

abbrev pub atom_fault : Scope → NamedAtom-F (Option NameKind) (Option NameKind) → Option NameKind
atom_fault s (NamedAtom-F.Var name) = variable_fault (meaning_of s name)
atom_fault s (NamedAtom-F.At array inner) = either (index_fault (use_of s array)) inner
atom_fault s _ = None

abbrev pub term_fault : Scope → NamedTerm → Option NameKind
term_fault s = fold-NamedTerm (Option NameKind) (Option NameKind) (atom_fault s) (λ t. t.atom)

abbrev pub terms_fault : Scope → NamedTerm → NamedTerm → Option NameKind
terms_fault s first second = either (term_fault s first) (term_fault s second)

abbrev pub value_step : Scope → NamedExpr-F (Option NameKind) → Option NameKind
value_step s (NamedExpr-F.Lit value) = None
value_step s (NamedExpr-F.Read array at) = either (data_fault (use_of s array)) (term_fault s at)
value_step s (NamedExpr-F.Local name) = local_fault (meaning_of s name)
value_step s (NamedExpr-F.Op op left right) = either left right

abbrev pub value_fault : Scope → NamedExpr → Option NameKind
value_fault s = fold-NamedExpr (Option NameKind) (value_step s)

-- an array, and one of n+1 entries
abbrev pub by_fault : Scope → ArrayName → ArrayName → Option NameKind
by_fault s array by = either (index_fault (use_of s array)) (sized_fault sizes.NPlusOne (use_of s by))

-- an array, and one of its size
abbrev pub before_fault : Scope → ArrayName → ArrayName → Option NameKind
before_fault s first second = either (index_fault (use_of s first)) (alike_fault (use_of s first) (use_of s second))

abbrev pub prop_fault : Scope → NamedProp → Option NameKind
prop_fault s (props.Range f lo hi) = index_fault (use_of s f)
prop_fault s (props.Rising p) = index_fault (use_of s p)
prop_fault s (props.Strict p) = index_fault (use_of s p)
prop_fault s (props.Injective f) = index_fault (use_of s f)
prop_fault s (props.Sorted f p) = by_fault s f p
prop_fault s (props.Below f p) = by_fault s f p
prop_fault s (props.Upto f p) = by_fault s f p
prop_fault s (props.Diagonal d f p) = either (sized_fault sizes.N (use_of s d)) (by_fault s f p)
prop_fault s (props.Before f g) = before_fault s f g

-- the first rule that a line breaks
abbrev pub line_fault : Scope → Line → Option NameKind
line_fault s (lines.Matrix name form) = new_fault (meaning_of s name)
line_fault s (lines.Index name size) = new_fault (meaning_of s name)
line_fault s (lines.Vector name size source) = new_fault (meaning_of s name)
line_fault s (lines.Local name) = new_fault (meaning_of s name)
line_fault s (lines.Prop prop) = prop_fault s prop
line_fault s (lines.Loop name) = new_fault (meaning_of s name)
line_fault s (lines.For name lo hi) = either (new_fault (meaning_of s name)) (terms_fault s lo hi)
line_fault s (lines.When rel left right) = terms_fault s left right
line_fault s (lines.Set array at value) = either (either (target_fault (use_of s array)) (term_fault s at)) (value_fault s value)
line_fault s (lines.Keep name value) = either (kept_fault (meaning_of s name)) (value_fault s value)
line_fault s lines.End = None

-- the first line that breaks a rule, and which
abbrev pub first_fault : Scope → List Numbered → Option (ℕ × NameKind)
first_fault s [] = None
first_fault s (l ∷ ls) = or_else (line_fault s l.line) (λ kind. Some (l.number, kind)) (first_fault (scope_after s l) ls)
