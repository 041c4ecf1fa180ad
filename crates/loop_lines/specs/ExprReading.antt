-- Reading an expression from the left, with a bound on the calls in one another.
use Rattle.std.specs.Prelude.{ℕ, zero, suc, pos, List, [], ◌∷◌, Option, Some, None}
use Rattle.loop_core.specs.declared.nest.Op.{Op}
use Rattle.loop_core.specs.declared.nest.Op.TheVariants as ops
use Rattle.loop_lines.specs.declared.tree.NamedExpr.{NamedExpr}
use Rattle.loop_lines.specs.declared.tree.NamedExpr.TheVariants as exprs
use Rattle.loop_lines.specs.declared.token.Keyword.TheVariants as keys
use Rattle.loop_lines.specs.declared.token.Token.{Token}
use Rattle.loop_lines.specs.declared.token.Token.TheVariants as tokens
use Rattle.loop_lines.specs.declared.tree.ArrayName.{ArrayName}
use Rattle.loop_lines.specs.declared.tree.ArrayName.TheVariants as arrays
use Rattle.loop_lines.specs.Reading.{◌>>=◌, close_at, term_at}

abbrev pub element_at : ℕ → ArrayName → List Token → Option (NamedExpr × List Token)
element_at k f (tokens.Open ∷ ts) = term_at k ts >>= λ t. close_at t.1 >>= λ rest. Some (exprs.Read f t.0, rest)
element_at k f _ = None

abbrev pub right_at : NamedExpr → List Token → Option (NamedExpr × List Token)
right_at e (tokens.Right ∷ ts) = Some (e, ts)
right_at e _ = None

-- an element of an array before a bracket, and a local elsewhere
abbrev pub named_at : ℕ → List ℕ → List Token → Option (NamedExpr × List Token)
named_at k name (tokens.Open ∷ ts) = element_at k (arrays.Own name) (tokens.Open ∷ ts)
named_at k name ts = Some (exprs.Local name, ts)

abbrev pub left_at : List Token → Option (List Token)
left_at (tokens.Left ∷ ts) = Some ts
left_at _ = None

abbrev pub comma_at : List Token → Option (List Token)
comma_at (tokens.Comma ∷ ts) = Some ts
comma_at _ = None

abbrev mutual
  pub factor_at : ℕ → List Token → Option (NamedExpr × List Token)
  factor_at zero ts = None
  factor_at (suc k) [] = None
  factor_at (suc k) (tokens.Zero ∷ ts) = Some (exprs.Lit (pos 0), ts)
  factor_at (suc k) (tokens.One ∷ ts) = Some (exprs.Lit (pos 1), ts)
  factor_at (suc k) (tokens.Number n ∷ ts) = Some (exprs.Lit (pos n), ts)
  factor_at (suc k) (tokens.Name name ∷ ts) = named_at k name ts
  factor_at (suc k) (tokens.Dotted matrix part ∷ ts) = element_at k (arrays.Dotted matrix part) ts
  factor_at (suc k) (tokens.Left ∷ ts) = sum_at k ts >>= λ x. right_at x.0 x.1
  factor_at (suc k) (tokens.Word keys.Min ∷ ts) = both_at k ops.Min ts
  factor_at (suc k) (tokens.Word keys.Max ∷ ts) = both_at k ops.Max ts
  factor_at (suc k) _ = None

  -- two sums in parentheses with a comma between them
  pub both_at : ℕ → Op → List Token → Option (NamedExpr × List Token)
  both_at zero op ts = None
  both_at (suc k) op ts = left_at ts >>= λ r. sum_at k r >>= λ a. comma_at a.1 >>= λ s. sum_at k s >>= λ b. right_at (exprs.Op op a.0 b.0) b.1

  pub product_at : ℕ → List Token → Option (NamedExpr × List Token)
  product_at zero ts = None
  product_at (suc k) ts = factor_at k ts >>= λ x. factors_at k x.0 x.1

  pub factors_at : ℕ → NamedExpr → List Token → Option (NamedExpr × List Token)
  factors_at zero e ts = None
  factors_at (suc k) e [] = Some (e, [])
  factors_at (suc k) e (tokens.Times ∷ ts) = factor_at k ts >>= λ x. factors_at k (exprs.Op ops.Mul e x.0) x.1
  factors_at (suc k) e (tokens.Over ∷ ts) = factor_at k ts >>= λ x. factors_at k (exprs.Op ops.Quot e x.0) x.1
  factors_at (suc k) e (t ∷ ts) = Some (e, t ∷ ts)

  pub sum_at : ℕ → List Token → Option (NamedExpr × List Token)
  sum_at zero ts = None
  sum_at (suc k) ts = product_at k ts >>= λ x. products_at k x.0 x.1

  pub products_at : ℕ → NamedExpr → List Token → Option (NamedExpr × List Token)
  products_at zero e ts = None
  products_at (suc k) e [] = Some (e, [])
  products_at (suc k) e (tokens.Plus ∷ ts) = product_at k ts >>= λ x. products_at k (exprs.Op ops.Add e x.0) x.1
  products_at (suc k) e (tokens.Minus ∷ ts) = product_at k ts >>= λ x. products_at k (exprs.Op ops.Sub e x.0) x.1
  products_at (suc k) e (t ∷ ts) = Some (e, t ∷ ts)

abbrev pub all_read : NamedExpr → List Token → Option NamedExpr
all_read e [] = Some e
all_read e (t ∷ ts) = None

-- all of the tokens
abbrev pub whole_at : ℕ → List Token → Option NamedExpr
whole_at k ts = sum_at k ts >>= λ x. all_read x.0 x.1
