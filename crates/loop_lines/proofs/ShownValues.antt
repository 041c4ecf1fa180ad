-- The text of an expression is a written sum of that meaning.
use Rattle.std.proofs.Common.{◌≡◌, ℕ, ◌+◌, ℤ, pos, negsuc, Bool, true, nat_lt, List, [], ◌∷◌, ◌++◌, refl, sym, ap, subst, ◌∙◌, append_assoc, arith}
use Rattle.std.specs.Prelude.{codes}
use Rattle.std.specs.Fmt.{decimal}
use Rattle.std.proofs.lemmas.List.{append-nil}
use Rattle.std.proofs.lemmas.Bool.Decides.{nat_tests}
use denote.Hole.Carrier as hole
use Rattle.loop_core.specs.declared.nest.Op.{Op}
use Rattle.loop_core.specs.declared.nest.Op.TheVariants as ops
use Rattle.loop_core.specs.IsNest.{is_literal}
use Rattle.loop_core.specs.Names.{is_name}
use Rattle.loop_lines.specs.declared.token.Keyword.TheVariants as keys
use Rattle.loop_lines.specs.declared.token.Token.{Token}
use Rattle.loop_lines.specs.declared.token.Token.TheVariants as tokens
use Rattle.loop_lines.specs.declared.tree.ArrayName.{ArrayName}
use Rattle.loop_lines.specs.declared.tree.NamedTerm.{NamedTerm}
use Rattle.loop_lines.specs.declared.tree.NamedExpr.{NamedExpr}
use Rattle.loop_lines.specs.declared.tree.NamedExpr.TheVariants as exprs
use Rattle.loop_lines.specs.declared.tree.NamedExpr.TheOpen.{NamedExpr-F}
use Rattle.loop_lines.specs.declared.tree.NamedExpr.TheViews.{roll-NamedExpr}
use Rattle.loop_lines.specs.declared.tree.NamedExpr.TheFolds.{ind-NamedExpr, fold-roll-NamedExpr, map-NamedExpr}
use Rattle.loop_lines.specs.Exprs.{Factor, Product, Sum, factor, product, sum, factor_of, product_of, sum_of}
use Rattle.loop_lines.specs.Shown.{shown_call, shown_entry, shown_term, shown_value_step, shown_value}
use Rattle.loop_lines.specs.Showable.{is_array, is_showable_term, showable_value_step, is_showable_value}
use Rattle.loop_lines.proofs.Bools.{and_parts}
use Rattle.loop_lines.proofs.ShownTexts.{Shows, Closed, Sign, as_closed, ◌▸◌, ◌◂◌, as_shows, word}
use Rattle.loop_lines.proofs.ShownWords.{name_shows, numeral_of, value_is, decimal_shows}
use Rattle.loop_lines.proofs.ShownTerms.{below, entry_shows, term_of}

-- what an expression's text is where at least rank 0, 1 or 2 is asked
pub record IsShown (e : NamedExpr) : Type 0 where
  pub added : Sum
  pub added_means : sum_of added ≡ e
  pub added_shows : Shows (shown_value e 0) (sum added)
  pub multiplied : Product
  pub multiplied_means : product_of multiplied ≡ e
  pub multiplied_shows : Shows (shown_value e 1) (product multiplied)
  pub alone : Factor
  pub alone_means : factor_of alone ≡ e
  pub alone_shows : Shows (shown_value e 2) (factor alone)

-- a factor has the same text at each rank
by_factor : (e : NamedExpr) (text : List ℕ) (f : Factor) → factor_of f ≡ e → Shows text (factor f) → ((least : ℕ) → shown_value e least ≡ text) → IsShown e
by_factor e text f means h is = record {
  added = Sum.Alone (Product.One f);
  added_means = means;
  added_shows = subst (λ (w : List ℕ). Shows w (factor f)) (sym (is 0)) h;
  multiplied = Product.One f;
  multiplied_means = means;
  multiplied_shows = subst (λ (w : List ℕ). Shows w (factor f)) (sym (is 1)) h;
  alone = f;
  alone_means = means;
  alone_shows = subst (λ (w : List ℕ). Shows w (factor f)) (sym (is 2)) h;
}

-- ---- operators

plus_between : Sign (codes " + ") (tokens.Plus ∷ [])
plus_between = record { reads = λ s. refl; begins = λ s. refl }

minus_between : Sign (codes " - ") (tokens.Minus ∷ [])
minus_between = record { reads = λ s. refl; begins = λ s. refl }

times_between : Sign (codes " * ") (tokens.Times ∷ [])
times_between = record { reads = λ s. refl; begins = λ s. refl }

over_between : Sign (codes " / ") (tokens.Over ∷ [])
over_between = record { reads = λ s. refl; begins = λ s. refl }

left_sign : Sign (codes "(") (tokens.Left ∷ [])
left_sign = record { reads = λ s. refl; begins = λ s. refl }

right_sign : Sign (codes ")") (tokens.Right ∷ [])
right_sign = record { reads = λ s. refl; begins = λ s. refl }

comma_sign : Sign (codes ", ") (tokens.Comma ∷ [])
comma_sign = record { reads = λ s. refl; begins = λ s. refl }

min_word : Shows (codes "min") (tokens.Word keys.Min ∷ [])
min_word = word (codes "min") (tokens.Word keys.Min) refl (omega arith) refl

max_word : Shows (codes "max") (tokens.Word keys.Max ∷ [])
max_word = word (codes "max") (tokens.Word keys.Max) refl (omega arith) refl

abbrev bare_text : List ℕ → List ℕ → List ℕ → List ℕ
bare_text sign a b = a ++ sign ++ b ++ []

abbrev group_text : List ℕ → List ℕ → List ℕ → List ℕ
group_text sign a b = codes "(" ++ a ++ sign ++ b ++ codes ")"

bare_shows : (sign : List ℕ) (t : Token) (a b : List ℕ) (xs ys : List Token) → Sign sign (t ∷ []) → Shows a xs → Shows b ys → Shows (bare_text sign a b) (xs ++ t ∷ ys)
bare_shows sign t a b xs ys g h k =
    let all : Shows (a ++ sign ++ b) ((xs ++ (t ∷ [])) ++ ys) = (h ◂ g) ▸ k in
    subst (λ (w : List ℕ). Shows w (xs ++ t ∷ ys)) (sym (append-nil (a ++ sign ++ b)))
    (subst (Shows (a ++ sign ++ b)) (append_assoc xs (t ∷ []) ys) all)

group_shows : (sign : List ℕ) (t : Token) (a b : List ℕ) (xs ys : List Token) → Sign sign (t ∷ []) → Shows a xs → Shows b ys → Shows (group_text sign a b) (tokens.Left ∷ ((xs ++ t ∷ ys) ++ tokens.Right ∷ []))
group_shows sign t a b xs ys g h k =
    let all : Closed (group_text sign a b) (tokens.Left ∷ (((xs ++ (t ∷ [])) ++ ys) ++ tokens.Right ∷ [])) = (((as_closed (codes "(") (tokens.Left ∷ []) left_sign ▸ h) ◂ g) ▸ k) ◂ right_sign in
    subst (Shows (group_text sign a b)) (ap (λ (l : List Token). tokens.Left ∷ (l ++ tokens.Right ∷ [])) (append_assoc xs (t ∷ []) ys))
    (as_shows (group_text sign a b) (tokens.Left ∷ (((xs ++ (t ∷ [])) ++ ys) ++ tokens.Right ∷ [])) all)

call_shows : (name : List ℕ) (t : Token) (a b : List ℕ) (xs ys : List Token) → Shows name (t ∷ []) → Shows a xs → Shows b ys → Shows (shown_call name a b) (t ∷ tokens.Left ∷ (xs ++ tokens.Comma ∷ (ys ++ tokens.Right ∷ [])))
call_shows name t a b xs ys g h k =
    let all : Closed (shown_call name a b) (t ∷ tokens.Left ∷ (((xs ++ (tokens.Comma ∷ [])) ++ ys) ++ tokens.Right ∷ [])) = ((((g ◂ left_sign) ▸ h) ◂ comma_sign) ▸ k) ◂ right_sign in
    let same : ((xs ++ (tokens.Comma ∷ [])) ++ ys) ++ tokens.Right ∷ [] ≡ xs ++ tokens.Comma ∷ (ys ++ tokens.Right ∷ []) = append_assoc (xs ++ tokens.Comma ∷ []) ys (tokens.Right ∷ []) ∙ append_assoc xs (tokens.Comma ∷ []) (ys ++ tokens.Right ∷ []) in
    subst (Shows (shown_call name a b)) (ap (λ (l : List Token). t ∷ tokens.Left ∷ l) same)
    (as_shows (shown_call name a b) (t ∷ tokens.Left ∷ (((xs ++ (tokens.Comma ∷ [])) ++ ys) ++ tokens.Right ∷ [])) all)

pub rolled_op : (op : Op) (l r : NamedExpr) → roll-NamedExpr (NamedExpr-F.Op op l r) ≡ exprs.Op op l r
unfolding roll-NamedExpr hole.roll
rolled_op op l r = refl

pub rolled_literal : (z : ℤ) → roll-NamedExpr (NamedExpr-F.Lit z) ≡ exprs.Lit z
unfolding roll-NamedExpr hole.roll
rolled_literal z = refl

pub rolled_local : (name : List ℕ) → roll-NamedExpr (NamedExpr-F.Local name) ≡ exprs.Local name
unfolding roll-NamedExpr hole.roll
rolled_local name = refl

pub rolled_read : (f : ArrayName) (t : NamedTerm) → roll-NamedExpr (NamedExpr-F.Read f t) ≡ exprs.Read f t
unfolding roll-NamedExpr hole.roll
rolled_read f t = refl

both_means : (op : Op) (a b c d : NamedExpr) → a ≡ b → c ≡ d → exprs.Op op a c ≡ exprs.Op op b d
both_means op a b c d e f = rw (e, f) refl

text_is : (x : NamedExpr-F NamedExpr) (least : ℕ) → shown_value (roll-NamedExpr x) least ≡ shown_value_step (map-NamedExpr NamedExpr (ℕ → List ℕ) shown_value x) least
text_is x least = ap (λ (g : ℕ → List ℕ). g least) (fold-roll-NamedExpr (ℕ → List ℕ) shown_value_step x)

-- a sum or a difference
by_sum : (op : Op) (sign : List ℕ) (t : Token) (e l r : NamedExpr) (w : Sum) (h : IsShown l) (k : IsShown r) → Sign sign (t ∷ []) → e ≡ exprs.Op op l r
    → sum w ≡ sum h.added ++ t ∷ product k.multiplied → sum_of w ≡ exprs.Op op (sum_of h.added) (product_of k.multiplied)
    → shown_value e 0 ≡ bare_text sign (shown_value l 0) (shown_value r 1) → ((n : ℕ) → shown_value e (n + 1) ≡ group_text sign (shown_value l 0) (shown_value r 1)) → IsShown e
by_sum op sign t e l r w h k g is tokens_are means_are bare grouped =
    let means : sum_of w ≡ e = means_are ∙ both_means op (sum_of h.added) l (product_of k.multiplied) r h.added_means k.multiplied_means ∙ sym is in
    let inner = group_shows sign t (shown_value l 0) (shown_value r 1) (sum h.added) (product k.multiplied) g h.added_shows k.multiplied_shows in
    let group : Shows (group_text sign (shown_value l 0) (shown_value r 1)) (factor (Factor.Group w)) = subst (λ (ts : List Token). Shows (group_text sign (shown_value l 0) (shown_value r 1)) (tokens.Left ∷ (ts ++ tokens.Right ∷ []))) (sym tokens_are) inner in
    record {
      added = w;
      added_means = means;
      added_shows = subst (λ (x : List ℕ). Shows x (sum w)) (sym bare) (subst (Shows (bare_text sign (shown_value l 0) (shown_value r 1))) (sym tokens_are) (bare_shows sign t (shown_value l 0) (shown_value r 1) (sum h.added) (product k.multiplied) g h.added_shows k.multiplied_shows));
      multiplied = Product.One (Factor.Group w);
      multiplied_means = means;
      multiplied_shows = subst (λ (x : List ℕ). Shows x (factor (Factor.Group w))) (sym (grouped 0)) group;
      alone = Factor.Group w;
      alone_means = means;
      alone_shows = subst (λ (x : List ℕ). Shows x (factor (Factor.Group w))) (sym (grouped 1)) group;
    }

-- a product or a quotient
by_product : (op : Op) (sign : List ℕ) (t : Token) (e l r : NamedExpr) (w : Product) (h : IsShown l) (k : IsShown r) → Sign sign (t ∷ []) → e ≡ exprs.Op op l r
    → product w ≡ product h.multiplied ++ t ∷ factor k.alone → product_of w ≡ exprs.Op op (product_of h.multiplied) (factor_of k.alone)
    → shown_value e 0 ≡ bare_text sign (shown_value l 1) (shown_value r 2) → shown_value e 1 ≡ bare_text sign (shown_value l 1) (shown_value r 2)
    → shown_value e 2 ≡ group_text sign (shown_value l 1) (shown_value r 2) → IsShown e
by_product op sign t e l r w h k g is tokens_are means_are bare lower grouped =
    let means : product_of w ≡ e = means_are ∙ both_means op (product_of h.multiplied) l (factor_of k.alone) r h.multiplied_means k.alone_means ∙ sym is in
    let plain : Shows (bare_text sign (shown_value l 1) (shown_value r 2)) (product w) = subst (Shows (bare_text sign (shown_value l 1) (shown_value r 2))) (sym tokens_are) (bare_shows sign t (shown_value l 1) (shown_value r 2) (product h.multiplied) (factor k.alone) g h.multiplied_shows k.alone_shows) in
    let inner = group_shows sign t (shown_value l 1) (shown_value r 2) (product h.multiplied) (factor k.alone) g h.multiplied_shows k.alone_shows in
    let group : Shows (group_text sign (shown_value l 1) (shown_value r 2)) (factor (Factor.Group (Sum.Alone w))) = subst (λ (ts : List Token). Shows (group_text sign (shown_value l 1) (shown_value r 2)) (tokens.Left ∷ (ts ++ tokens.Right ∷ []))) (sym tokens_are) inner in
    record {
      added = Sum.Alone w;
      added_means = means;
      added_shows = subst (λ (x : List ℕ). Shows x (product w)) (sym bare) plain;
      multiplied = w;
      multiplied_means = means;
      multiplied_shows = subst (λ (x : List ℕ). Shows x (product w)) (sym lower) plain;
      alone = Factor.Group (Sum.Alone w);
      alone_means = means;
      alone_shows = subst (λ (x : List ℕ). Shows x (factor (Factor.Group (Sum.Alone w)))) (sym grouped) group;
    }

-- the lesser or the greater
by_call : (op : Op) (name : List ℕ) (t : Token) (e l r : NamedExpr) (f : Factor) (h : IsShown l) (k : IsShown r) → Shows name (t ∷ []) → e ≡ exprs.Op op l r
    → factor f ≡ t ∷ tokens.Left ∷ (sum h.added ++ tokens.Comma ∷ (sum k.added ++ tokens.Right ∷ [])) → factor_of f ≡ exprs.Op op (sum_of h.added) (sum_of k.added)
    → ((least : ℕ) → shown_value e least ≡ shown_call name (shown_value l 0) (shown_value r 0)) → IsShown e
by_call op name t e l r f h k g is tokens_are means_are text =
    by_factor e (shown_call name (shown_value l 0) (shown_value r 0)) f
    (means_are ∙ both_means op (sum_of h.added) l (sum_of k.added) r h.added_means k.added_means ∙ sym is)
    (subst (Shows (shown_call name (shown_value l 0) (shown_value r 0))) (sym tokens_are) (call_shows name t (shown_value l 0) (shown_value r 0) (sum h.added) (sum k.added) g h.added_shows k.added_shows))
    text

-- ---- by the shape of an expression

abbrev ValueIsShown : NamedExpr → Type 0
ValueIsShown e = is_showable_value e ≡ true → IsShown e

abbrev ShownValue : Type 0
ShownValue = (e : NamedExpr) × ValueIsShown e

higher : (n : ℕ) → nat_lt 0 (n + 1) ≡ true
higher n = grind (arith, nat_tests)

op_case : (op : Op) (l r : NamedExpr) → IsShown l → IsShown r → IsShown (roll-NamedExpr (NamedExpr-F.Op op l r))
op_case ops.Add l r h k =
    let x : NamedExpr-F NamedExpr = NamedExpr-F.Op ops.Add l r in
    by_sum ops.Add (codes " + ") tokens.Plus (roll-NamedExpr x) l r (Sum.Plus h.added k.multiplied) h k plus_between (rolled_op ops.Add l r) refl refl (text_is x 0) (λ n. text_is x (n + 1) ∙ rw (higher n) refl)
op_case ops.Sub l r h k =
    let x : NamedExpr-F NamedExpr = NamedExpr-F.Op ops.Sub l r in
    by_sum ops.Sub (codes " - ") tokens.Minus (roll-NamedExpr x) l r (Sum.Minus h.added k.multiplied) h k minus_between (rolled_op ops.Sub l r) refl refl (text_is x 0) (λ n. text_is x (n + 1) ∙ rw (higher n) refl)
op_case ops.Mul l r h k =
    let x : NamedExpr-F NamedExpr = NamedExpr-F.Op ops.Mul l r in
    by_product ops.Mul (codes " * ") tokens.Times (roll-NamedExpr x) l r (Product.Times h.multiplied k.alone) h k times_between (rolled_op ops.Mul l r) refl refl (text_is x 0) (text_is x 1) (text_is x 2)
op_case ops.Quot l r h k =
    let x : NamedExpr-F NamedExpr = NamedExpr-F.Op ops.Quot l r in
    by_product ops.Quot (codes " / ") tokens.Over (roll-NamedExpr x) l r (Product.Over h.multiplied k.alone) h k over_between (rolled_op ops.Quot l r) refl refl (text_is x 0) (text_is x 1) (text_is x 2)
op_case ops.Min l r h k =
    let x : NamedExpr-F NamedExpr = NamedExpr-F.Op ops.Min l r in
    by_call ops.Min (codes "min") (tokens.Word keys.Min) (roll-NamedExpr x) l r (Factor.Lesser h.added k.added) h k min_word (rolled_op ops.Min l r) refl refl (text_is x)
op_case ops.Max l r h k =
    let x : NamedExpr-F NamedExpr = NamedExpr-F.Op ops.Max l r in
    by_call ops.Max (codes "max") (tokens.Word keys.Max) (roll-NamedExpr x) l r (Factor.Greater h.added k.added) h k max_word (rolled_op ops.Max l r) refl refl (text_is x)

literal_case : (z : ℤ) → is_literal z ≡ true → IsShown (roll-NamedExpr (NamedExpr-F.Lit z))
literal_case (negsuc n) e = absurd cc
literal_case (pos n) e =
    let x : NamedExpr-F NamedExpr = NamedExpr-F.Lit (pos n) in
    by_factor (roll-NamedExpr x) (decimal n) (Factor.Literal (numeral_of n)) (ap (λ (k : ℕ). exprs.Lit (pos k)) (value_is n) ∙ sym (rolled_literal (pos n))) (decimal_shows n (below n e)) (text_is x)

local_case : (name : List ℕ) → is_name name ≡ true → IsShown (roll-NamedExpr (NamedExpr-F.Local name))
local_case name e =
    let x : NamedExpr-F NamedExpr = NamedExpr-F.Local name in
    by_factor (roll-NamedExpr x) name (Factor.Local name) (sym (rolled_local name)) (name_shows name e) (text_is x)

read_case : (f : ArrayName) (t : NamedTerm) → is_array f ≡ true → is_showable_term t ≡ true → IsShown (roll-NamedExpr (NamedExpr-F.Read f t))
read_case f t e g =
    let x : NamedExpr-F NamedExpr = NamedExpr-F.Read f t in
    let w = term_of t g in
    let element = Factor.Element f w.written in
    by_factor (roll-NamedExpr x) (shown_entry f (shown_term t)) element (ap (exprs.Read f) w.means ∙ sym (rolled_read f t)) (as_shows (shown_entry f (shown_term t)) (factor element) (entry_shows f (shown_term t) _ e w.shows)) (text_is x)

value_case : (y : NamedExpr-F ShownValue) → ValueIsShown (roll-NamedExpr (map-NamedExpr ShownValue NamedExpr (λ e. e.0) y))
value_case (NamedExpr-F.Lit z) e = literal_case z (sym (fold-roll-NamedExpr Bool showable_value_step (NamedExpr-F.Lit z)) ∙ e)
value_case (NamedExpr-F.Read f t) e =
    let both = and_parts (is_array f) (is_showable_term t) (sym (fold-roll-NamedExpr Bool showable_value_step (NamedExpr-F.Read f t)) ∙ e) in
    read_case f t both.0 both.1
value_case (NamedExpr-F.Local name) e = local_case name (sym (fold-roll-NamedExpr Bool showable_value_step (NamedExpr-F.Local name)) ∙ e)
value_case (NamedExpr-F.Op op l r) e =
    let both = and_parts (is_showable_value l.0) (is_showable_value r.0) (sym (fold-roll-NamedExpr Bool showable_value_step (NamedExpr-F.Op op l.0 r.0)) ∙ e) in
    op_case op l.0 r.0 (l.1 both.0) (r.1 both.1)

pub value_of : (e : NamedExpr) → is_showable_value e ≡ true → IsShown e
value_of = ind-NamedExpr ValueIsShown (λ x y is. subst (λ z. ValueIsShown (roll-NamedExpr z)) is (value_case y))
