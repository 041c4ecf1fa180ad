-- The canonical text of a line: one space between words and round `=`, relations and operators, one
-- space after a comma, and none elsewhere; numbers without leading zeros; parentheses only where they are needed.
use Rattle.std.specs.Prelude.{ℕ, ◌+◌, ℤ, pos, int_lt, nat_lt, Bool, if◌then◌else◌, codes, List, [], ◌++◌}
use Rattle.std.specs.Fmt.{signed_decimal}
use Rattle.loop_core.specs.declared.decl.Form.{Form}
use Rattle.loop_core.specs.declared.decl.Form.TheVariants.{Csr, Csc}
use Rattle.loop_core.specs.declared.decl.Size.{Size}
use Rattle.loop_core.specs.declared.decl.Size.TheVariants.{N, NPlusOne, Nnz}
use Rattle.loop_core.specs.declared.decl.Source.{Source}
use Rattle.loop_core.specs.declared.decl.Source.TheVariants.{File, Zeros}
use Rattle.loop_core.specs.declared.nest.Op.{Op}
use Rattle.loop_core.specs.declared.nest.Op.TheVariants.{Add, Sub, Mul, Quot, Min, Max}
use Rattle.loop_core.specs.declared.nest.Rel.{Rel}
use Rattle.loop_core.specs.declared.nest.Rel.TheVariants.{Equal, Less, LessEqual}
use Rattle.loop_lines.specs.declared.tree.ArrayName.{ArrayName}
use Rattle.loop_lines.specs.declared.tree.ArrayName.TheVariants.{Own, Dotted}
use Rattle.loop_lines.specs.declared.tree.NamedAtom.TheOpen.{NamedAtom-F, NamedTerm-F}
use Rattle.loop_lines.specs.declared.tree.NamedAtom.TheFolds.{fold-NamedTerm}
use Rattle.loop_lines.specs.declared.tree.NamedTerm.{NamedTerm}
use Rattle.loop_lines.specs.declared.tree.NamedExpr.{NamedExpr}
use Rattle.loop_lines.specs.declared.tree.NamedExpr.TheOpen.{NamedExpr-F}
use Rattle.loop_lines.specs.declared.tree.NamedExpr.TheFolds.{fold-NamedExpr}
use Rattle.loop_lines.specs.declared.line.NamedProp.{NamedProp}
use Rattle.loop_lines.specs.declared.line.NamedProp.TheVariants.{Range, Rising, Strict, Injective, Sorted, Below, Upto, Diagonal, Before}
use Rattle.loop_lines.specs.declared.line.Line.{Line}
use Rattle.loop_lines.specs.declared.line.Line.TheVariants as lines

-- Terms.

abbrev pub shown_array : ArrayName → List ℕ
shown_array (Own name) = name
shown_array (Dotted matrix part) = matrix ++ codes "." ++ part

-- a constant by itself: `NUM`, or `0-NUM`
abbrev pub shown_number : ℤ → List ℕ
shown_number z = if int_lt z (pos 0) then codes "0" ++ signed_decimal z else signed_decimal z

-- a constant after an atom: `+NUM`, `-NUM`, or nothing for 0
abbrev pub shown_offset : ℤ → List ℕ
shown_offset z = if int_lt (pos 0) z then codes "+" ++ signed_decimal z else (if int_lt z (pos 0) then signed_decimal z else [])

-- `ARR[TERM]`
abbrev pub shown_entry : ArrayName → List ℕ → List ℕ
shown_entry array inner = shown_array array ++ codes "[" ++ inner ++ codes "]"

-- an atom and a constant, with the text of the inner term in its place
abbrev pub shown_atom_step : NamedAtom-F (ℤ → List ℕ) (List ℕ) → ℤ → List ℕ
shown_atom_step NamedAtom-F.Zero plus = shown_number plus
shown_atom_step NamedAtom-F.N plus = codes "n" ++ shown_offset plus
shown_atom_step NamedAtom-F.Nnz plus = codes "nnz" ++ shown_offset plus
shown_atom_step (NamedAtom-F.Var name) plus = name ++ shown_offset plus
shown_atom_step (NamedAtom-F.At array inner) plus = shown_entry array inner ++ shown_offset plus

abbrev pub shown_term_step : NamedTerm-F (ℤ → List ℕ) (List ℕ) → List ℕ
shown_term_step t = t.atom t.plus

abbrev pub shown_term : NamedTerm → List ℕ
shown_term = fold-NamedTerm (ℤ → List ℕ) (List ℕ) shown_atom_step shown_term_step

-- Expressions.

-- a parenthesis, where one is needed
abbrev pub opening : Bool → List ℕ
opening is_grouped = if is_grouped then codes "(" else []

abbrev pub closing : Bool → List ℕ
closing is_grouped = if is_grouped then codes ")" else []

-- Two operands and a sign between them, where at least a rank is asked, with parentheses where its own is lower.
-- The left operand is asked the rank of the sign, and the right one a higher one.
abbrev pub shown_between : List ℕ → ℕ → (ℕ → List ℕ) → (ℕ → List ℕ) → ℕ → List ℕ
shown_between sign rank left right least = opening (nat_lt rank least) ++ left rank ++ sign ++ right (rank + 1) ++ closing (nat_lt rank least)

-- two operands in parentheses after a word, a comma between them
abbrev pub shown_call : List ℕ → List ℕ → List ℕ → List ℕ
shown_call word left right = word ++ codes "(" ++ left ++ codes ", " ++ right ++ codes ")"

-- sums and differences have rank 0, products and quotients rank 1, and factors stand above both
abbrev pub shown_op : Op → (ℕ → List ℕ) → (ℕ → List ℕ) → ℕ → List ℕ
shown_op Add left right least = shown_between (codes " + ") 0 left right least
shown_op Sub left right least = shown_between (codes " - ") 0 left right least
shown_op Mul left right least = shown_between (codes " * ") 1 left right least
shown_op Quot left right least = shown_between (codes " / ") 1 left right least
shown_op Min left right least = shown_call (codes "min") (left 0) (right 0)
shown_op Max left right least = shown_call (codes "max") (left 0) (right 0)

-- the text of an expression where at least a rank is asked
abbrev pub shown_value_step : NamedExpr-F (ℕ → List ℕ) → ℕ → List ℕ
shown_value_step (NamedExpr-F.Lit value) least = signed_decimal value
shown_value_step (NamedExpr-F.Read array at) least = shown_entry array (shown_term at)
shown_value_step (NamedExpr-F.Local name) least = name
shown_value_step (NamedExpr-F.Op op left right) least = shown_op op left right least

abbrev pub shown_value : NamedExpr → ℕ → List ℕ
shown_value = fold-NamedExpr (ℕ → List ℕ) shown_value_step

-- Lines, without the spaces at their left.

abbrev pub shown_form : Form → List ℕ
shown_form Csr = codes " csr"
shown_form Csc = codes " csc"

abbrev pub shown_size : Size → List ℕ
shown_size N = codes "n"
shown_size NPlusOne = codes "n+1"
shown_size Nnz = codes "nnz"

abbrev pub shown_source : Source → List ℕ
shown_source File = codes "file"
shown_source Zeros = codes "zero"

abbrev pub shown_rel : Rel → List ℕ
shown_rel Equal = codes " == "
shown_rel Less = codes " < "
shown_rel LessEqual = codes " <= "

abbrev pub shown_prop : NamedProp → List ℕ
shown_prop (Range f lo hi) = codes "range " ++ shown_array f ++ codes " " ++ shown_term lo ++ codes " " ++ shown_term hi
shown_prop (Rising p) = codes "rising " ++ shown_array p
shown_prop (Strict p) = codes "strict " ++ shown_array p
shown_prop (Injective f) = codes "injective " ++ shown_array f
shown_prop (Sorted f p) = codes "sorted " ++ shown_array f ++ codes " by " ++ shown_array p
shown_prop (Below f p) = codes "below " ++ shown_array f ++ codes " by " ++ shown_array p
shown_prop (Upto f p) = codes "upto " ++ shown_array f ++ codes " by " ++ shown_array p
shown_prop (Diagonal d f p) = codes "diagonal " ++ shown_array d ++ codes " of " ++ shown_array f ++ codes " by " ++ shown_array p
shown_prop (Before f g) = codes "before " ++ shown_array f ++ codes " " ++ shown_array g

abbrev pub shown_line : Line → List ℕ
shown_line (lines.Matrix name form) = codes "matrix " ++ name ++ shown_form form
shown_line (lines.Index name size) = codes "index " ++ name ++ codes " " ++ shown_size size
shown_line (lines.Vector name size source) = codes "vector " ++ name ++ codes " " ++ shown_size size ++ codes " " ++ shown_source source
shown_line (lines.Local name) = codes "local " ++ name
shown_line (lines.Prop prop) = shown_prop prop
shown_line (lines.Loop name) = codes "loop " ++ name
shown_line (lines.For name lo hi) = codes "for " ++ name ++ codes " in " ++ shown_term lo ++ codes ".." ++ shown_term hi
shown_line (lines.When rel left right) = codes "when " ++ shown_term left ++ shown_rel rel ++ shown_term right
shown_line (lines.Set array at value) = codes "set " ++ shown_entry array (shown_term at) ++ codes " = " ++ shown_value value 0
shown_line (lines.Keep name value) = codes "set " ++ name ++ codes " = " ++ shown_value value 0
shown_line lines.End = codes "end"
