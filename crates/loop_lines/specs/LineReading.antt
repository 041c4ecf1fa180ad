-- Reading a line's words and signs from the left.
use Rattle.std.specs.Prelude.{ℕ, ◌*◌, length, pos, List, [], ◌∷◌, Option, Some, None}
use Rattle.loop_core.specs.declared.decl.Form.{Form}
use Rattle.loop_core.specs.declared.decl.Form.TheVariants.{Csr, Csc}
use Rattle.loop_core.specs.declared.decl.Size.{Size}
use Rattle.loop_core.specs.declared.decl.Size.TheVariants as sizes
use Rattle.loop_core.specs.declared.decl.Source.{Source}
use Rattle.loop_core.specs.declared.decl.Source.TheVariants.{File, Zeros}
use Rattle.loop_core.specs.declared.nest.Rel.{Rel}
use Rattle.loop_core.specs.declared.nest.Rel.TheVariants as rels
use Rattle.loop_lines.specs.declared.token.Keyword.{Keyword}
use Rattle.loop_lines.specs.declared.token.Keyword.TheVariants as keys
use Rattle.loop_lines.specs.declared.token.Token.{Token}
use Rattle.loop_lines.specs.declared.token.Token.TheVariants as tokens
use Rattle.loop_lines.specs.declared.tree.ArrayName.{ArrayName}
use Rattle.loop_lines.specs.declared.tree.NamedAtom.TheVariants as atoms
use Rattle.loop_lines.specs.declared.tree.NamedTerm.{NamedTerm}
use Rattle.loop_lines.specs.declared.tree.NamedExpr.{NamedExpr}
use Rattle.loop_lines.specs.declared.line.NamedProp.{NamedProp}
use Rattle.loop_lines.specs.declared.line.NamedProp.TheVariants as props
use Rattle.loop_lines.specs.declared.line.Line.{Line}
use Rattle.loop_lines.specs.declared.line.Line.TheVariants as lines
use Rattle.loop_lines.specs.Reading.{◌>>=◌, or_else, array_at, entry_at, close_at, zero_at, constant, shifted_at, term_at}
use Rattle.loop_lines.specs.ExprReading.{whole_at}

abbrev pub end_at : List Token → Option (Unit {0})
end_at [] = Some tt
end_at _ = None

abbrev pub name_at : List Token → Option (List ℕ × List Token)
name_at (tokens.Name name ∷ ts) = Some (name, ts)
name_at _ = None

abbrev pub in_at : List Token → Option (List Token)
in_at (tokens.Word keys.In ∷ ts) = Some ts
in_at _ = None

abbrev pub of_at : List Token → Option (List Token)
of_at (tokens.Word keys.Of ∷ ts) = Some ts
of_at _ = None

abbrev pub by_at : List Token → Option (List Token)
by_at (tokens.Word keys.By ∷ ts) = Some ts
by_at _ = None

abbrev pub to_at : List Token → Option (List Token)
to_at (tokens.To ∷ ts) = Some ts
to_at _ = None

abbrev pub assign_at : List Token → Option (List Token)
assign_at (tokens.Assign ∷ ts) = Some ts
assign_at _ = None

abbrev pub rel_at : List Token → Option (Rel × List Token)
rel_at (tokens.Equal ∷ ts) = Some (rels.Equal, ts)
rel_at (tokens.Less ∷ ts) = Some (rels.Less, ts)
rel_at (tokens.AtMost ∷ ts) = Some (rels.LessEqual, ts)
rel_at _ = None

-- Declarations.

abbrev pub form_at : List Token → Option (Form × List Token)
form_at (tokens.Word keys.Csr ∷ ts) = Some (Csr, ts)
form_at (tokens.Word keys.Csc ∷ ts) = Some (Csc, ts)
form_at _ = None

abbrev pub one_at : List Token → Option (Size × List Token)
one_at (tokens.One ∷ ts) = Some (sizes.NPlusOne, ts)
one_at _ = None

abbrev pub longer_at : List Token → Option (Size × List Token)
longer_at (tokens.Plus ∷ ts) = one_at ts
longer_at ts = Some (sizes.N, ts)

abbrev pub size_at : List Token → Option (Size × List Token)
size_at (tokens.N ∷ ts) = longer_at ts
size_at (tokens.Nnz ∷ ts) = Some (sizes.Nnz, ts)
size_at _ = None

abbrev pub source_at : List Token → Option (Source × List Token)
source_at (tokens.Word keys.File ∷ ts) = Some (File, ts)
source_at (tokens.Word keys.Zero ∷ ts) = Some (Zeros, ts)
source_at _ = None

abbrev pub matrix_at : List Token → Option Line
matrix_at ts = name_at ts >>= λ a. form_at a.1 >>= λ f. end_at f.1 >>= λ u. Some (lines.Matrix a.0 f.0)

abbrev pub index_at : List Token → Option Line
index_at ts = name_at ts >>= λ a. size_at a.1 >>= λ s. end_at s.1 >>= λ u. Some (lines.Index a.0 s.0)

abbrev pub last_source_at : List Token → Option Source
last_source_at ts = source_at ts >>= λ c. end_at c.1 >>= λ u. Some c.0

abbrev pub vector_at : List Token → Option Line
vector_at ts = name_at ts >>= λ a. size_at a.1 >>= λ s. last_source_at s.1 >>= λ c. Some (lines.Vector a.0 s.0 c)

abbrev pub local_at : List Token → Option Line
local_at ts = name_at ts >>= λ a. end_at a.1 >>= λ u. Some (lines.Local a.0)

-- Properties.

abbrev pub alone_at : List Token → Option ArrayName
alone_at ts = array_at ts >>= λ a. end_at a.1 >>= λ u. Some a.0

abbrev pub pair_at : List Token → Option (ArrayName × ArrayName)
pair_at ts = array_at ts >>= λ f. alone_at f.1 >>= λ g. Some (f.0, g)

abbrev pub by_pair_at : List Token → Option (ArrayName × ArrayName)
by_pair_at ts = array_at ts >>= λ f. by_at f.1 >>= λ r. alone_at r >>= λ p. Some (f.0, p)

abbrev pub diagonal_at : List Token → Option NamedProp
diagonal_at ts = array_at ts >>= λ d. of_at d.1 >>= λ r. by_pair_at r >>= λ p. Some (props.Diagonal d.0 p.0 p.1)

-- a number, 0 less a number, or a size with its shift
abbrev pub bound_at : List Token → Option (NamedTerm × List Token)
bound_at (tokens.Zero ∷ ts) = zero_at ts
bound_at (tokens.One ∷ ts) = Some (constant (pos 1), ts)
bound_at (tokens.Number n ∷ ts) = Some (constant (pos n), ts)
bound_at (tokens.N ∷ ts) = shifted_at atoms.N ts
bound_at (tokens.Nnz ∷ ts) = shifted_at atoms.Nnz ts
bound_at _ = None

abbrev pub last_bound_at : List Token → Option NamedTerm
last_bound_at ts = bound_at ts >>= λ b. end_at b.1 >>= λ u. Some b.0

abbrev pub range_at : List Token → Option NamedProp
range_at ts = array_at ts >>= λ f. bound_at f.1 >>= λ lo. last_bound_at lo.1 >>= λ hi. Some (props.Range f.0 lo.0 hi)

-- Lines of the loop.

abbrev pub loop_at : List Token → Option Line
loop_at ts = name_at ts >>= λ a. end_at a.1 >>= λ u. Some (lines.Loop a.0)

abbrev pub free_term_at : List Token → Option (NamedTerm × List Token)
free_term_at ts = term_at (length ts) ts

abbrev pub last_term_at : List Token → Option NamedTerm
last_term_at ts = free_term_at ts >>= λ t. end_at t.1 >>= λ u. Some t.0

abbrev pub terms_at : List Token → Option (NamedTerm × NamedTerm)
terms_at ts = free_term_at ts >>= λ lo. to_at lo.1 >>= λ r. last_term_at r >>= λ hi. Some (lo.0, hi)

abbrev pub for_at : List Token → Option Line
for_at ts = name_at ts >>= λ a. in_at a.1 >>= λ r. terms_at r >>= λ p. Some (lines.For a.0 p.0 p.1)

abbrev pub when_at : List Token → Option Line
when_at ts = free_term_at ts >>= λ l. rel_at l.1 >>= λ r. last_term_at r.1 >>= λ t. Some (lines.When r.0 l.0 t)

abbrev pub value_at : List Token → Option NamedExpr
value_at ts = whole_at (3 * length ts) ts

abbrev pub kept_at : List Token → Option NamedExpr
kept_at ts = assign_at ts >>= λ r. value_at r

abbrev pub keep_at : List Token → Option Line
keep_at ts = name_at ts >>= λ a. kept_at a.1 >>= λ e. Some (lines.Keep a.0 e)

abbrev pub assigned_at : List Token → Option NamedExpr
assigned_at ts = close_at ts >>= λ r. kept_at r

abbrev pub put_at : ArrayName → List Token → Option Line
put_at array ts = free_term_at ts >>= λ t. assigned_at t.1 >>= λ e. Some (lines.Set array t.0 e)

-- an array before a bracket, or a name alone
abbrev pub set_at : List Token → Option Line
set_at ts = or_else (entry_at ts) (λ a. put_at a.0 a.1) (keep_at ts)

abbrev pub last_at : List Token → Option Line
last_at ts = end_at ts >>= λ u. Some lines.End

-- The line after its first word.

abbrev pub prop_at : Keyword → List Token → Option NamedProp
prop_at keys.Range ts = range_at ts
prop_at keys.Rising ts = alone_at ts >>= λ p. Some (props.Rising p)
prop_at keys.Strict ts = alone_at ts >>= λ p. Some (props.Strict p)
prop_at keys.Injective ts = alone_at ts >>= λ f. Some (props.Injective f)
prop_at keys.Sorted ts = by_pair_at ts >>= λ p. Some (props.Sorted p.0 p.1)
prop_at keys.Below ts = by_pair_at ts >>= λ p. Some (props.Below p.0 p.1)
prop_at keys.Upto ts = by_pair_at ts >>= λ p. Some (props.Upto p.0 p.1)
prop_at keys.Diagonal ts = diagonal_at ts
prop_at keys.Before ts = pair_at ts >>= λ p. Some (props.Before p.0 p.1)
prop_at _ ts = None

abbrev pub form_line_at : Keyword → List Token → Option Line
form_line_at keys.Matrix ts = matrix_at ts
form_line_at keys.Index ts = index_at ts
form_line_at keys.Vector ts = vector_at ts
form_line_at keys.Local ts = local_at ts
form_line_at keys.Loop ts = loop_at ts
form_line_at keys.For ts = for_at ts
form_line_at keys.When ts = when_at ts
form_line_at keys.Set ts = set_at ts
form_line_at keys.End ts = last_at ts
form_line_at key ts = prop_at key ts >>= λ p. Some (lines.Prop p)

abbrev pub line_at : List Token → Option Line
line_at (tokens.Word key ∷ ts) = form_line_at key ts
line_at _ = None
