-- A written line whose words can be shown means a line that can be shown.
use Rattle.std.proofs.Common.{◌≡◌, ℕ, zero, suc, ℤ, pos, ◌^◌, Bool, true, ◌&&◌, nat_lt, List, [], ◌∷◌, ◌++◌, refl, sym, ap, ◌∙◌}
use Rattle.std.specs.Prelude.{neg_ℤ, nat_abs}
use Rattle.loop_core.specs.declared.nest.Op.{Op}
use Rattle.loop_core.specs.declared.nest.Op.TheVariants as ops
use Rattle.loop_core.specs.Names.{is_name}
use Rattle.loop_lines.specs.declared.token.Token.{Token}
use Rattle.loop_lines.specs.declared.token.Token.TheVariants as tokens
use Rattle.loop_lines.specs.declared.tree.ArrayName.{ArrayName}
use Rattle.loop_lines.specs.declared.tree.ArrayName.TheVariants.{Own, Dotted}
use Rattle.loop_lines.specs.declared.tree.NamedAtom.{NamedAtom}
use Rattle.loop_lines.specs.declared.tree.NamedAtom.TheVariants as atoms
use Rattle.loop_lines.specs.declared.tree.NamedAtom.TheOpen.{NamedAtom-F}
use Rattle.loop_lines.specs.declared.tree.NamedAtom.TheFolds.{fold-roll-NamedAtom, fold-roll-NamedTerm}
use Rattle.loop_lines.specs.declared.tree.NamedTerm.{NamedTerm}
use Rattle.loop_lines.specs.declared.tree.NamedExpr.{NamedExpr}
use Rattle.loop_lines.specs.declared.tree.NamedExpr.TheVariants as exprs
use Rattle.loop_lines.specs.declared.tree.NamedExpr.TheOpen.{NamedExpr-F}
use Rattle.loop_lines.specs.declared.tree.NamedExpr.TheFolds.{fold-roll-NamedExpr}
use Rattle.loop_lines.specs.Grammar.{Numeral, Shift, Simple, Written, numeral, shift, simple, array, term, value, shift_of, atom_of, meaning}
use Rattle.loop_lines.specs.Exprs.{Factor, Product, Sum, factor, product, sum, factor_of, product_of, sum_of}
use Rattle.loop_lines.specs.Reading.{with_atom}
use Rattle.loop_lines.specs.Lines.{Bound, bound, WrittenLine, line, line_of}
use Rattle.loop_lines.specs.Showable.{is_array, is_shift, showable_atom_step, showable_term_step, is_showable_term, showable_value_step, is_showable_value, bound_step, bound_term_step, is_showable_bound, IsShowable}
use Rattle.loop_lines.proofs.Bools.{and_both}
use Rattle.loop_lines.proofs.ShownTerms.{zero_atom, rows_atom, stored_atom, named_atom, entry_atom, is_showable_atom, is_bound_atom}
use Rattle.loop_lines.proofs.ShownValues.{rolled_op, rolled_literal, rolled_read, rolled_local}
use Rattle.loop_lines.proofs.ShowableWords.{ShowableToken}
use Rattle.loop_lines.proofs.ShowableTokens.{ShowableTokens}

front : (xs ys : List Token) → ShowableTokens (xs ++ ys) → ShowableTokens xs
front [] ys h = tt
front (x ∷ xs) ys h = (h.0, front xs ys h.1)

behind : (xs ys : List Token) → ShowableTokens (xs ++ ys) → ShowableTokens ys
behind [] ys h = h
behind (x ∷ xs) ys h = behind xs ys h.1

-- ---- numbers

numeral_fits : (n : Numeral) → ShowableTokens (numeral n) → nat_lt (value n) (2 ^ 63) ≡ true
numeral_fits Numeral.Zero h = refl
numeral_fits Numeral.One h = refl
numeral_fits (Numeral.Number n) h = h.0

size_of_negative : (n : ℕ) → nat_abs (neg_ℤ (pos n)) ≡ n
size_of_negative zero = refl
size_of_negative (suc n) = refl

less_fits : (n : Numeral) → ShowableTokens (numeral n) → is_shift (neg_ℤ (pos (value n))) ≡ true
less_fits n h = ap (λ (k : ℕ). nat_lt k (2 ^ 63)) (size_of_negative (value n)) ∙ numeral_fits n h

shift_fits : (s : Shift) → ShowableTokens (shift s) → is_shift (shift_of s) ≡ true
shift_fits Shift.Bare h = refl
shift_fits (Shift.Plus n) h = numeral_fits n h.1
shift_fits (Shift.Less n) h = less_fits n h.1

-- ---- terms

term_at : (a : NamedAtom) (z : ℤ) → is_showable_term (with_atom a z) ≡ (is_showable_atom a && is_shift z)
term_at a z = fold-roll-NamedTerm Bool Bool showable_atom_step showable_term_step (record { atom = a; plus = z })

term_fits : (a : NamedAtom) (z : ℤ) → is_showable_atom a ≡ true → is_shift z ≡ true → is_showable_term (with_atom a z) ≡ true
term_fits a z e f = term_at a z ∙ and_both (is_showable_atom a) (is_shift z) e f

zero_fits : is_showable_atom atoms.Zero ≡ true
zero_fits = ap is_showable_atom (sym zero_atom) ∙ fold-roll-NamedAtom Bool Bool showable_atom_step showable_term_step NamedAtom-F.Zero

simple_fits : (a : Simple) → ShowableToken (simple a) → is_showable_atom (atom_of a) ≡ true
simple_fits Simple.N h = ap is_showable_atom (sym rows_atom) ∙ fold-roll-NamedAtom Bool Bool showable_atom_step showable_term_step NamedAtom-F.N
simple_fits Simple.Nnz h = ap is_showable_atom (sym stored_atom) ∙ fold-roll-NamedAtom Bool Bool showable_atom_step showable_term_step NamedAtom-F.Nnz
simple_fits (Simple.Name name) h = ap is_showable_atom (sym (named_atom name)) ∙ fold-roll-NamedAtom Bool Bool showable_atom_step showable_term_step (NamedAtom-F.Var name) ∙ h

array_fits : (f : ArrayName) → ShowableToken (array f) → is_array f ≡ true
array_fits (Own name) h = h
array_fits (Dotted matrix part) h = h

entry_fits : (f : ArrayName) (t : NamedTerm) → is_array f ≡ true → is_showable_term t ≡ true → is_showable_atom (atoms.At f t) ≡ true
entry_fits f t e g =
    ap is_showable_atom (sym (entry_atom f t)) ∙ fold-roll-NamedAtom Bool Bool showable_atom_step showable_term_step (NamedAtom-F.At f t) ∙ and_both (is_array f) (is_showable_term t) e g

meaning_fits : (w : Written) → ShowableTokens (term w) → is_showable_term (meaning w) ≡ true
meaning_fits (Written.Constant n) h = term_fits atoms.Zero (pos (value n)) zero_fits (numeral_fits n h)
meaning_fits (Written.Negative n) h = term_fits atoms.Zero (neg_ℤ (pos (value n))) zero_fits (less_fits n h.1.1)
meaning_fits (Written.Shifted a s) h = term_fits (atom_of a) (shift_of s) (simple_fits a h.0) (shift_fits s h.1)
meaning_fits (Written.Entry f t s) h =
    let inner = front (term t) (tokens.Close ∷ shift s) h.1.1 in
    let rest = behind (term t) (tokens.Close ∷ shift s) h.1.1 in
    term_fits (atoms.At f (meaning t)) (shift_of s) (entry_fits f (meaning t) (array_fits f h.0) (meaning_fits t inner)) (shift_fits s rest.1)

-- ---- bounds

bound_at : (a : NamedAtom) (z : ℤ) → is_bound_atom a ≡ true → is_shift z ≡ true → is_showable_bound (with_atom a z) ≡ true
bound_at a z e f = fold-roll-NamedTerm Bool Bool bound_step bound_term_step (record { atom = a; plus = z }) ∙ and_both (is_bound_atom a) (is_shift z) e f

zero_bounds : is_bound_atom atoms.Zero ≡ true
zero_bounds = ap is_bound_atom (sym zero_atom) ∙ fold-roll-NamedAtom Bool Bool bound_step bound_term_step NamedAtom-F.Zero

rows_bounds : is_bound_atom atoms.N ≡ true
rows_bounds = ap is_bound_atom (sym rows_atom) ∙ fold-roll-NamedAtom Bool Bool bound_step bound_term_step NamedAtom-F.N

stored_bounds : is_bound_atom atoms.Nnz ≡ true
stored_bounds = ap is_bound_atom (sym stored_atom) ∙ fold-roll-NamedAtom Bool Bool bound_step bound_term_step NamedAtom-F.Nnz

bound_fits : (b : Bound) → ShowableTokens (term (bound b)) → is_showable_bound (meaning (bound b)) ≡ true
bound_fits (Bound.Constant n) h = bound_at atoms.Zero (pos (value n)) zero_bounds (numeral_fits n h)
bound_fits (Bound.Negative n) h = bound_at atoms.Zero (neg_ℤ (pos (value n))) zero_bounds (less_fits n h.1.1)
bound_fits (Bound.Rows s) h = bound_at atoms.N (shift_of s) rows_bounds (shift_fits s h.1)
bound_fits (Bound.Stored s) h = bound_at atoms.Nnz (shift_of s) stored_bounds (shift_fits s h.1)

-- ---- expressions

literal_fits : (n : ℕ) → nat_lt n (2 ^ 63) ≡ true → is_showable_value (exprs.Lit (pos n)) ≡ true
literal_fits n e = ap is_showable_value (sym (rolled_literal (pos n))) ∙ fold-roll-NamedExpr Bool showable_value_step (NamedExpr-F.Lit (pos n)) ∙ e

read_fits : (f : ArrayName) (t : NamedTerm) → is_array f ≡ true → is_showable_term t ≡ true → is_showable_value (exprs.Read f t) ≡ true
read_fits f t e g =
    ap is_showable_value (sym (rolled_read f t)) ∙ fold-roll-NamedExpr Bool showable_value_step (NamedExpr-F.Read f t) ∙ and_both (is_array f) (is_showable_term t) e g

local_fits : (name : List ℕ) → is_name name ≡ true → is_showable_value (exprs.Local name) ≡ true
local_fits name e = ap is_showable_value (sym (rolled_local name)) ∙ fold-roll-NamedExpr Bool showable_value_step (NamedExpr-F.Local name) ∙ e

op_fits : (op : Op) (l r : NamedExpr) → is_showable_value l ≡ true → is_showable_value r ≡ true → is_showable_value (exprs.Op op l r) ≡ true
op_fits op l r e g =
    ap is_showable_value (sym (rolled_op op l r)) ∙ fold-roll-NamedExpr Bool showable_value_step (NamedExpr-F.Op op l r) ∙ and_both (is_showable_value l) (is_showable_value r) e g

-- of two sums with a comma between them
first_of : (s t : Sum) → ShowableTokens (sum s ++ tokens.Comma ∷ (sum t ++ tokens.Right ∷ [])) → ShowableTokens (sum s)
first_of s t h = front (sum s) (tokens.Comma ∷ (sum t ++ tokens.Right ∷ [])) h

second_of : (s t : Sum) → ShowableTokens (sum s ++ tokens.Comma ∷ (sum t ++ tokens.Right ∷ [])) → ShowableTokens (sum t)
second_of s t h = front (sum t) (tokens.Right ∷ []) (behind (sum s) (tokens.Comma ∷ (sum t ++ tokens.Right ∷ [])) h).1

mutual
  factor_fits : (w : Factor) → ShowableTokens (factor w) → is_showable_value (factor_of w) ≡ true
  factor_fits (Factor.Literal n) h = literal_fits (value n) (numeral_fits n h)
  factor_fits (Factor.Element f t) h = read_fits f (meaning t) (array_fits f h.0) (meaning_fits t (front (term t) (tokens.Close ∷ []) h.1.1))
  factor_fits (Factor.Local name) h = local_fits name h.0
  factor_fits (Factor.Group s) h = sum_fits s (front (sum s) (tokens.Right ∷ []) h.1)
  factor_fits (Factor.Lesser s t) h = op_fits ops.Min (sum_of s) (sum_of t) (sum_fits s (first_of s t h.1.1)) (sum_fits t (second_of s t h.1.1))
  factor_fits (Factor.Greater s t) h = op_fits ops.Max (sum_of s) (sum_of t) (sum_fits s (first_of s t h.1.1)) (sum_fits t (second_of s t h.1.1))

  product_fits : (w : Product) → ShowableTokens (product w) → is_showable_value (product_of w) ≡ true
  product_fits (Product.One f) h = factor_fits f h
  product_fits (Product.Times p f) h = op_fits ops.Mul (product_of p) (factor_of f) (product_fits p (front (product p) (tokens.Times ∷ factor f) h)) (factor_fits f (behind (product p) (tokens.Times ∷ factor f) h).1)
  product_fits (Product.Over p f) h = op_fits ops.Quot (product_of p) (factor_of f) (product_fits p (front (product p) (tokens.Over ∷ factor f) h)) (factor_fits f (behind (product p) (tokens.Over ∷ factor f) h).1)

  sum_fits : (w : Sum) → ShowableTokens (sum w) → is_showable_value (sum_of w) ≡ true
  sum_fits (Sum.Alone p) h = product_fits p h
  sum_fits (Sum.Plus s p) h = op_fits ops.Add (sum_of s) (product_of p) (sum_fits s (front (sum s) (tokens.Plus ∷ product p) h)) (product_fits p (behind (sum s) (tokens.Plus ∷ product p) h).1)
  sum_fits (Sum.Minus s p) h = op_fits ops.Sub (sum_of s) (product_of p) (sum_fits s (front (sum s) (tokens.Minus ∷ product p) h)) (product_fits p (behind (sum s) (tokens.Minus ∷ product p) h).1)

-- ---- lines

two : (f g : ArrayName) → ShowableToken (array f) → ShowableToken (array g) → (is_array f && is_array g) ≡ true
two f g h k = and_both (is_array f) (is_array g) (array_fits f h) (array_fits g k)

pub written_fits : (w : WrittenLine) → ShowableTokens (line w) → IsShowable (line_of w)
written_fits (WrittenLine.Matrix name f) h = h.1.0
written_fits (WrittenLine.Index name s) h = h.1.0
written_fits (WrittenLine.Vector name s c) h = h.1.0
written_fits (WrittenLine.Local name) h = h.1.0
written_fits (WrittenLine.Range f lo hi) h =
    let b = bound_fits lo (front (term (bound lo)) (term (bound hi)) h.1.1) in
    let c = bound_fits hi (behind (term (bound lo)) (term (bound hi)) h.1.1) in
    and_both (is_array f && is_showable_bound (meaning (bound lo))) (is_showable_bound (meaning (bound hi))) (and_both (is_array f) (is_showable_bound (meaning (bound lo))) (array_fits f h.1.0) b) c
written_fits (WrittenLine.Rising p) h = array_fits p h.1.0
written_fits (WrittenLine.Strict p) h = array_fits p h.1.0
written_fits (WrittenLine.Injective f) h = array_fits f h.1.0
written_fits (WrittenLine.Sorted f p) h = two f p h.1.0 h.1.1.1.0
written_fits (WrittenLine.Under f p) h = two f p h.1.0 h.1.1.1.0
written_fits (WrittenLine.Upto f p) h = two f p h.1.0 h.1.1.1.0
written_fits (WrittenLine.Diagonal d f p) h = and_both (is_array d && is_array f) (is_array p) (two d f h.1.0 h.1.1.1.0) (array_fits p h.1.1.1.1.1.0)
written_fits (WrittenLine.Before f g) h = two f g h.1.0 h.1.1.0
written_fits (WrittenLine.Loop name) h = h.1.0
written_fits (WrittenLine.For name lo hi) h =
    let b = meaning_fits lo (front (term lo) (tokens.To ∷ term hi) h.1.1.1) in
    let c = meaning_fits hi (behind (term lo) (tokens.To ∷ term hi) h.1.1.1).1 in
    and_both (is_name name && is_showable_term (meaning lo)) (is_showable_term (meaning hi)) (and_both (is_name name) (is_showable_term (meaning lo)) h.1.0 b) c
written_fits (WrittenLine.When left r right) h =
    let b = meaning_fits left (front (term left) _ h.1) in
    let c = meaning_fits right (behind (term left) _ h.1).1 in
    and_both (is_showable_term (meaning left)) (is_showable_term (meaning right)) b c
written_fits (WrittenLine.Set x at value) h =
    let b = meaning_fits at (front (term at) (tokens.Close ∷ tokens.Assign ∷ sum value) h.1.1.1) in
    let v = sum_fits value (behind (term at) (tokens.Close ∷ tokens.Assign ∷ sum value) h.1.1.1).1.1 in
    and_both (is_array x && is_showable_term (meaning at)) (is_showable_value (sum_of value)) (and_both (is_array x) (is_showable_term (meaning at)) (array_fits x h.1.0) b) v
written_fits (WrittenLine.Keep name value) h = and_both (is_name name) (is_showable_value (sum_of value)) h.1.0 (sum_fits value h.1.1.1)
written_fits WrittenLine.End h = refl
