-- The grammar of expressions: sums of products of factors, each grouped from the left.
use Rattle.std.specs.Prelude.{◌≡◌, ℕ, pos, List, [], ◌∷◌, ◌++◌}
use Rattle.loop_core.specs.declared.nest.Op.TheVariants as ops
use Rattle.loop_lines.specs.declared.tree.NamedExpr.{NamedExpr}
use Rattle.loop_lines.specs.declared.tree.NamedExpr.TheVariants as exprs
use Rattle.loop_lines.specs.declared.token.Keyword.TheVariants as keys
use Rattle.loop_lines.specs.declared.token.Token.{Token}
use Rattle.loop_lines.specs.declared.token.Token.TheVariants as tokens
use Rattle.loop_lines.specs.declared.tree.ArrayName.{ArrayName}
use Rattle.loop_lines.specs.Grammar.{Numeral, Written, numeral, array, term, value, meaning}

-- a factor is a number, an element of an array, a name alone, a sum in parentheses, or the lesser or the greater of two sums
mutual
  pub data Factor : Type 0 where
    Literal : Numeral → Factor
    Element : ArrayName → Written → Factor
    Local : List ℕ → Factor
    Group : Sum → Factor
    Lesser : Sum → Sum → Factor
    Greater : Sum → Sum → Factor

  pub data Product : Type 0 where
    One : Factor → Product
    Times : Product → Factor → Product
    Over : Product → Factor → Product

  pub data Sum : Type 0 where
    Alone : Product → Sum
    Plus : Sum → Product → Sum
    Minus : Sum → Product → Sum

abbrev mutual
  pub factor : Factor → List Token
  factor (Literal n) = numeral n
  factor (Element f t) = array f ∷ tokens.Open ∷ (term t ++ tokens.Close ∷ [])
  factor (Local name) = tokens.Name name ∷ []
  factor (Group s) = tokens.Left ∷ (sum s ++ tokens.Right ∷ [])
  factor (Lesser s t) = tokens.Word keys.Min ∷ tokens.Left ∷ (sum s ++ tokens.Comma ∷ (sum t ++ tokens.Right ∷ []))
  factor (Greater s t) = tokens.Word keys.Max ∷ tokens.Left ∷ (sum s ++ tokens.Comma ∷ (sum t ++ tokens.Right ∷ []))

  pub product : Product → List Token
  product (One f) = factor f
  product (Times p f) = product p ++ tokens.Times ∷ factor f
  product (Over p f) = product p ++ tokens.Over ∷ factor f

  pub sum : Sum → List Token
  sum (Alone p) = product p
  sum (Plus s p) = sum s ++ tokens.Plus ∷ product p
  sum (Minus s p) = sum s ++ tokens.Minus ∷ product p

-- What it means.

abbrev mutual
  pub factor_of : Factor → NamedExpr
  factor_of (Literal n) = exprs.Lit (pos (value n))
  factor_of (Element f t) = exprs.Read f (meaning t)
  factor_of (Local name) = exprs.Local name
  factor_of (Group s) = sum_of s
  factor_of (Lesser s t) = exprs.Op ops.Min (sum_of s) (sum_of t)
  factor_of (Greater s t) = exprs.Op ops.Max (sum_of s) (sum_of t)

  pub product_of : Product → NamedExpr
  product_of (One f) = factor_of f
  product_of (Times p f) = exprs.Op ops.Mul (product_of p) (factor_of f)
  product_of (Over p f) = exprs.Op ops.Quot (product_of p) (factor_of f)

  pub sum_of : Sum → NamedExpr
  sum_of (Alone p) = product_of p
  sum_of (Plus s p) = exprs.Op ops.Add (sum_of s) (product_of p)
  sum_of (Minus s p) = exprs.Op ops.Sub (sum_of s) (product_of p)

-- these tokens are an expression of this meaning
pub record IsExpr (ts : List Token) (e : NamedExpr) : Type 0 where
  pub written : Sum
  pub tokens : ts ≡ sum written
  pub means : sum_of written ≡ e
