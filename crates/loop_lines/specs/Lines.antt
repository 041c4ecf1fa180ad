-- The forms of lines: how each is written, and what it means.
use Rattle.std.specs.Prelude.{◌≡◌, ℕ, List, [], ◌∷◌, ◌++◌}
use Rattle.loop_core.specs.declared.decl.Form.{Form}
use Rattle.loop_core.specs.declared.decl.Form.TheVariants.{Csr, Csc}
use Rattle.loop_core.specs.declared.decl.Size.{Size}
use Rattle.loop_core.specs.declared.decl.Size.TheVariants as sizes
use Rattle.loop_core.specs.declared.decl.Source.{Source}
use Rattle.loop_core.specs.declared.decl.Source.TheVariants.{File, Zeros}
use Rattle.loop_core.specs.declared.nest.Rel.{Rel}
use Rattle.loop_core.specs.declared.nest.Rel.TheVariants as rels
use Rattle.loop_lines.specs.declared.token.Keyword.TheVariants as keys
use Rattle.loop_lines.specs.declared.token.Token.{Token}
use Rattle.loop_lines.specs.declared.token.Token.TheVariants as tokens
use Rattle.loop_lines.specs.declared.tree.ArrayName.{ArrayName}
use Rattle.loop_lines.specs.declared.line.NamedProp.TheVariants as props
use Rattle.loop_lines.specs.declared.line.Line.{Line}
use Rattle.loop_lines.specs.declared.line.Line.TheVariants as lines
use Rattle.loop_lines.specs.Grammar.{Numeral, Shift, Simple, Written, array, term, meaning}
use Rattle.loop_lines.specs.Exprs.{Sum, sum, sum_of}

-- a bound of `range`: a number, 0 less a number, or a size with its shift
pub data Bound : Type 0 where
  Constant : Numeral → Bound
  Negative : Numeral → Bound
  Rows : Shift → Bound
  Stored : Shift → Bound

-- a bound is a term
abbrev pub bound : Bound → Written
bound (Constant n) = Written.Constant n
bound (Negative n) = Written.Negative n
bound (Rows s) = Written.Shifted Simple.N s
bound (Stored s) = Written.Shifted Simple.Nnz s

-- a line as it is written
pub data WrittenLine : Type 0 where
  Matrix : List ℕ → Form → WrittenLine
  Index : List ℕ → Size → WrittenLine
  Vector : List ℕ → Size → Source → WrittenLine
  Local : List ℕ → WrittenLine
  Range : ArrayName → Bound → Bound → WrittenLine
  Rising : ArrayName → WrittenLine
  Strict : ArrayName → WrittenLine
  Injective : ArrayName → WrittenLine
  Sorted : ArrayName → ArrayName → WrittenLine
  Under : ArrayName → ArrayName → WrittenLine
  Upto : ArrayName → ArrayName → WrittenLine
  Diagonal : ArrayName → ArrayName → ArrayName → WrittenLine
  Before : ArrayName → ArrayName → WrittenLine
  Loop : List ℕ → WrittenLine
  For : List ℕ → Written → Written → WrittenLine
  When : Written → Rel → Written → WrittenLine
  Set : ArrayName → Written → Sum → WrittenLine
  Keep : List ℕ → Sum → WrittenLine
  End : WrittenLine

abbrev pub form : Form → Token
form Csr = tokens.Word keys.Csr
form Csc = tokens.Word keys.Csc

abbrev pub size : Size → List Token
size sizes.N = tokens.N ∷ []
size sizes.NPlusOne = tokens.N ∷ tokens.Plus ∷ tokens.One ∷ []
size sizes.Nnz = tokens.Nnz ∷ []

abbrev pub source : Source → Token
source File = tokens.Word keys.File
source Zeros = tokens.Word keys.Zero

abbrev pub rel : Rel → Token
rel rels.Equal = tokens.Equal
rel rels.Less = tokens.Less
rel rels.LessEqual = tokens.AtMost

-- an array, `by` and an array
abbrev pub by_pair : ArrayName → ArrayName → List Token
by_pair f p = array f ∷ tokens.Word keys.By ∷ array p ∷ []

abbrev pub line : WrittenLine → List Token
line (Matrix name f) = tokens.Word keys.Matrix ∷ tokens.Name name ∷ form f ∷ []
line (Index name s) = tokens.Word keys.Index ∷ tokens.Name name ∷ size s
line (Vector name s c) = tokens.Word keys.Vector ∷ tokens.Name name ∷ (size s ++ source c ∷ [])
line (Local name) = tokens.Word keys.Local ∷ tokens.Name name ∷ []
line (Range f lo hi) = tokens.Word keys.Range ∷ array f ∷ (term (bound lo) ++ term (bound hi))
line (Rising p) = tokens.Word keys.Rising ∷ array p ∷ []
line (Strict p) = tokens.Word keys.Strict ∷ array p ∷ []
line (Injective f) = tokens.Word keys.Injective ∷ array f ∷ []
line (Sorted f p) = tokens.Word keys.Sorted ∷ by_pair f p
line (Under f p) = tokens.Word keys.Below ∷ by_pair f p
line (Upto f p) = tokens.Word keys.Upto ∷ by_pair f p
line (Diagonal d f p) = tokens.Word keys.Diagonal ∷ array d ∷ tokens.Word keys.Of ∷ by_pair f p
line (Before f g) = tokens.Word keys.Before ∷ array f ∷ array g ∷ []
line (Loop name) = tokens.Word keys.Loop ∷ tokens.Name name ∷ []
line (For name lo hi) = tokens.Word keys.For ∷ tokens.Name name ∷ tokens.Word keys.In ∷ (term lo ++ tokens.To ∷ term hi)
line (When left r right) = tokens.Word keys.When ∷ (term left ++ rel r ∷ term right)
line (Set x at value) = tokens.Word keys.Set ∷ array x ∷ tokens.Open ∷ (term at ++ tokens.Close ∷ tokens.Assign ∷ sum value)
line (Keep name value) = tokens.Word keys.Set ∷ tokens.Name name ∷ tokens.Assign ∷ sum value
line End = tokens.Word keys.End ∷ []

-- What it means.

abbrev pub line_of : WrittenLine → Line
line_of (Matrix name f) = lines.Matrix name f
line_of (Index name s) = lines.Index name s
line_of (Vector name s c) = lines.Vector name s c
line_of (Local name) = lines.Local name
line_of (Range f lo hi) = lines.Prop (props.Range f (meaning (bound lo)) (meaning (bound hi)))
line_of (Rising p) = lines.Prop (props.Rising p)
line_of (Strict p) = lines.Prop (props.Strict p)
line_of (Injective f) = lines.Prop (props.Injective f)
line_of (Sorted f p) = lines.Prop (props.Sorted f p)
line_of (Under f p) = lines.Prop (props.Below f p)
line_of (Upto f p) = lines.Prop (props.Upto f p)
line_of (Diagonal d f p) = lines.Prop (props.Diagonal d f p)
line_of (Before f g) = lines.Prop (props.Before f g)
line_of (Loop name) = lines.Loop name
line_of (For name lo hi) = lines.For name (meaning lo) (meaning hi)
line_of (When left r right) = lines.When r (meaning left) (meaning right)
line_of (Set x at value) = lines.Set x (meaning at) (sum_of value)
line_of (Keep name value) = lines.Keep name (sum_of value)
line_of End = lines.End

-- these tokens are a line of this meaning
pub record IsLine (ts : List Token) (l : Line) : Type 0 where
  pub written : WrittenLine
  pub tokens : ts ≡ line written
  pub means : line_of written ≡ l
