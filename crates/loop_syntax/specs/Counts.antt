-- The counts of a nest, each with the line at which it passes its limit.
use Rattle.std.specs.Prelude.{ℕ, ◌+◌, ℤ, Bool, if◌then◌else◌, ◌==◌, nat_lt, nat_le, List, [], ◌∷◌, ◌++◌, length, Option, Some, None}
use Rattle.std.specs.List.{list_all, list_any, flat_map, filter}
use Rattle.loop_core.specs.IsNest.{is_constant}
use Rattle.loop_lines.specs.declared.line.Line.{Line}
use Rattle.loop_lines.specs.declared.line.Line.TheVariants as lines
use Rattle.loop_lines.specs.declared.line.NamedProp.{NamedProp}
use Rattle.loop_lines.specs.declared.line.NamedProp.TheVariants as props
use Rattle.loop_lines.specs.declared.tree.ArrayName.{ArrayName}
use Rattle.loop_lines.specs.declared.tree.NamedAtom.TheOpen.{NamedAtom-F}
use Rattle.loop_lines.specs.declared.tree.NamedAtom.TheFolds.{fold-NamedTerm}
use Rattle.loop_lines.specs.declared.tree.NamedTerm.{NamedTerm}
use Rattle.loop_lines.specs.declared.tree.NamedExpr.{NamedExpr}
use Rattle.loop_lines.specs.declared.tree.NamedExpr.TheOpen.{NamedExpr-F}
use Rattle.loop_lines.specs.declared.tree.NamedExpr.TheFolds.{fold-NamedExpr}
use Rattle.loop_lines.specs.Reading.{or_else}
use Rattle.loop_lines.specs.Words.{either}
use Rattle.loop_syntax.specs.declared.refusal.LimitKind.{LimitKind}
use Rattle.loop_syntax.specs.declared.refusal.LimitKind.TheVariants.{Lines, Constant, Arrays, Locals, Depth, References}
use Rattle.loop_syntax.specs.declared.numbered.Numbered.{Numbered}
use Rattle.loop_syntax.specs.Scope.{Scope, empty, scope_after, use_of, variables}
use Rattle.loop_syntax.specs.Resolved.{number_of}

-- Constants.

abbrev pub constants_step : NamedAtom-F (List ℤ) (List ℤ) → List ℤ
constants_step (NamedAtom-F.At array inner) = inner
constants_step _ = []

-- the constants of a term, the inner ones first
abbrev pub constants : NamedTerm → List ℤ
constants = fold-NamedTerm (List ℤ) (List ℤ) constants_step (λ t. t.atom ++ t.plus ∷ [])

abbrev pub value_terms_step : NamedExpr-F (List NamedTerm) → List NamedTerm
value_terms_step (NamedExpr-F.Lit value) = []
value_terms_step (NamedExpr-F.Read array at) = at ∷ []
value_terms_step (NamedExpr-F.Local name) = []
value_terms_step (NamedExpr-F.Op op left right) = left ++ right

abbrev pub value_terms : NamedExpr → List NamedTerm
value_terms = fold-NamedExpr (List NamedTerm) value_terms_step

abbrev pub bounds : NamedProp → List NamedTerm
bounds (props.Range f lo hi) = lo ∷ hi ∷ []
bounds _ = []

-- the terms of a line, from left to right
abbrev pub terms : Line → List NamedTerm
terms (lines.Prop prop) = bounds prop
terms (lines.For name lo hi) = lo ∷ hi ∷ []
terms (lines.When rel left right) = left ∷ right ∷ []
terms (lines.Set array at value) = at ∷ value_terms value
terms (lines.Keep name value) = value_terms value
terms _ = []

abbrev pub has_constants : Line → Bool
has_constants l = list_all is_constant (flat_map constants (terms l))

-- References.

abbrev pub reads_step : NamedExpr-F (List ArrayName) → List ArrayName
reads_step (NamedExpr-F.Lit value) = []
reads_step (NamedExpr-F.Read array at) = array ∷ []
reads_step (NamedExpr-F.Local name) = []
reads_step (NamedExpr-F.Op op left right) = left ++ right

-- the arrays that an expression reads, from left to right
abbrev pub reads : NamedExpr → List ArrayName
reads = fold-NamedExpr (List ArrayName) reads_step

-- the data arrays on a line: those read, and then the one written; a local is none
abbrev pub data_arrays : Line → List ArrayName
data_arrays (lines.Set array at value) = reads value ++ array ∷ []
data_arrays (lines.Keep name value) = reads value
data_arrays _ = []

abbrev pub target : Scope → Line → List ℕ
target s (lines.Set array at value) = number_of (use_of s array) ∷ []
target s _ = []

-- the numbers of the arrays that lines write
abbrev pub targets : Scope → List Numbered → List ℕ
targets s [] = []
targets s (l ∷ ls) = target s l.line ++ targets (scope_after s l) ls

abbrev pub is_written : List ℕ → ℕ → Bool
is_written written number = list_any (λ k. number == k) written

-- how many data arrays on a line are written somewhere
abbrev pub references : List ℕ → Scope → Line → ℕ
references written s l = length (filter (λ array. is_written written (number_of (use_of s array))) (data_arrays l))

-- Limits.

abbrev pub passed : Bool → LimitKind → Option LimitKind
passed is_passed kind = if is_passed then Some kind else None

abbrev pub constant_limit : Line → Option LimitKind
constant_limit l = if has_constants l then None else Some Constant

-- the first limit that the scope after a line passes, or the references up to its end
abbrev pub scope_limit : Scope → ℕ → Option LimitKind
scope_limit behind count =
    either (passed (nat_lt 64 behind.arrays) Arrays) (either (passed (nat_lt 16 behind.locals) Locals) (either (passed (nat_lt 6 (length (variables behind.blocks))) Depth) (passed (nat_lt 16 count) References)))

-- the first limit that a line passes, with the scope after it and the references up to its end
abbrev pub limits_at : Line → Scope → ℕ → Option LimitKind
limits_at l behind count = either (constant_limit l) (scope_limit behind count)

-- the first line that passes a limit, and which
abbrev pub first_passed : List ℕ → Scope → ℕ → List Numbered → Option (ℕ × LimitKind)
first_passed written s count [] = None
first_passed written s count (l ∷ ls) =
    or_else (limits_at l.line (scope_after s l) (count + references written s l.line)) (λ kind. Some (l.number, kind)) (first_passed written (scope_after s l) (count + references written s l.line) ls)

abbrev pub is_within : Numbered → Bool
is_within l = nat_le l.number 400

-- a text has at most 400 lines
abbrev pub lines_limit : ℕ → Option (ℕ × LimitKind)
lines_limit count = if nat_lt 400 count then Some (401, Lines) else None

-- the first line that passes a limit, of a text with so many lines
abbrev pub first_limit : ℕ → List Numbered → Option (ℕ × LimitKind)
first_limit count ls = either (first_passed (targets empty ls) empty 0 (filter is_within ls)) (lines_limit count)
