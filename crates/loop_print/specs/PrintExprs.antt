-- The text of expressions.
use Rattle.std.specs.Prelude.{ℕ, ◌+◌, Bool, nat_lt, if◌then◌else◌, codes, List, [], ◌++◌}
use Rattle.std.specs.Fmt.{signed_decimal}
use Rattle.loop_core.specs.declared.decl.Decl.{Decl}
use Rattle.loop_core.specs.declared.decl.LocalDecl.{LocalDecl}
use Rattle.loop_core.specs.declared.nest.Op.{Op}
use Rattle.loop_core.specs.declared.nest.Op.TheVariants.{Add, Sub, Mul, Quot, Min, Max}
use Rattle.loop_core.specs.declared.nest.Expr.{Expr}
use Rattle.loop_core.specs.declared.nest.Expr.TheOpen.{Expr-F}
use Rattle.loop_core.specs.declared.nest.Expr.TheFolds.{fold-Expr}
use Rattle.loop_print.specs.PrintNames.{Block, local_name}
use Rattle.loop_print.specs.PrintTerms.{entry_text, term_text}

-- a parenthesis, where one is needed
abbrev pub opened : Bool → List ℕ
opened is_grouped = if is_grouped then codes "(" else []

abbrev pub closed : Bool → List ℕ
closed is_grouped = if is_grouped then codes ")" else []

-- Two operands and a sign between them, where at least a rank is asked, with parentheses where their own is lower.
-- The left operand is asked the rank of the sign, and the right one a higher one.
abbrev pub between : List ℕ → ℕ → (ℕ → List ℕ) → (ℕ → List ℕ) → ℕ → List ℕ
between sign rank left right least =
    opened (nat_lt rank least) ++ left rank ++ sign ++ right (rank + 1) ++ closed (nat_lt rank least)

-- two operands in parentheses after a word, with a comma between them
abbrev pub called : List ℕ → List ℕ → List ℕ → List ℕ
called word left right = word ++ codes "(" ++ left ++ codes ", " ++ right ++ codes ")"

-- Sums and differences have rank 0, products and quotients rank 1, and all else stands above both. The operands of
-- `min` and `max` are asked no rank.
abbrev pub op_text : Op → (ℕ → List ℕ) → (ℕ → List ℕ) → ℕ → List ℕ
op_text Add left right least = between (codes " + ") 0 left right least
op_text Sub left right least = between (codes " - ") 0 left right least
op_text Mul left right least = between (codes " * ") 1 left right least
op_text Quot left right least = between (codes " / ") 1 left right least
op_text Min left right least = called (codes "min") (left 0) (right 0)
op_text Max left right least = called (codes "max") (left 0) (right 0)

-- the text of an expression where at least a rank is asked
abbrev pub expr_step : List Decl → List LocalDecl → List Block → Expr-F (ℕ → List ℕ) → ℕ → List ℕ
expr_step decls locals blocks (Expr-F.Lit value) least = signed_decimal value
expr_step decls locals blocks (Expr-F.Read array at) least = entry_text decls array (term_text decls blocks at)
expr_step decls locals blocks (Expr-F.Local local) least = local_name locals local
expr_step decls locals blocks (Expr-F.Op op left right) least = op_text op left right least

abbrev pub expr_text : List Decl → List LocalDecl → List Block → Expr → ℕ → List ℕ
expr_text decls locals blocks = fold-Expr (ℕ → List ℕ) (expr_step decls locals blocks)
