-- What is read is written so, and what is written is read.
use Rattle.std.proofs.Common.{◌≡◌, ℕ, zero, suc, ◌+◌, ◌-◌, ◌*◌, ◌≤◌, ◌<◌, Bool, true, false, List, [], ◌∷◌, ◌++◌, length, Option, Some, refl, sym, ap, subst, ◌∙◌, append_assoc, arith}
use Rattle.std.proofs.lemmas.List.{length-append, append-nil}
use Rattle.loop_core.specs.declared.nest.Op.{Op}
use Rattle.loop_core.specs.declared.nest.Op.TheVariants as ops
use Rattle.loop_lines.specs.declared.tree.NamedExpr.{NamedExpr}
use Rattle.loop_lines.specs.declared.tree.NamedExpr.TheVariants as exprs
use Rattle.loop_lines.specs.declared.token.Keyword.{Keyword}
use Rattle.loop_lines.specs.declared.token.Keyword.TheVariants as keys
use Rattle.loop_lines.specs.declared.token.Token.{Token}
use Rattle.loop_lines.specs.declared.token.Token.TheVariants as tokens
use Rattle.loop_lines.specs.declared.tree.ArrayName.{ArrayName}
use Rattle.loop_lines.specs.declared.tree.ArrayName.TheVariants as arrays
use Rattle.loop_lines.specs.Grammar.{Numeral, Written, numeral, shift, array, term, meaning}
use Rattle.loop_lines.specs.Exprs.{IsExpr, Factor, Product, Sum, factor, product, sum, factor_of, product_of, sum_of}
use Rattle.loop_lines.specs.Reading.{◌>>=◌, close_at, term_at}
use Rattle.loop_lines.specs.ExprReading.{all_read, element_at, right_at, named_at, left_at, comma_at, factor_at, both_at, product_at, factors_at, sum_at, products_at}
use Rattle.loop_lines.proofs.TermLaws.{Wrote, bind_some, some_is, close_sound, term_sound, term_again, height}

-- an expression that was read grows by what stands after it
pub record Grows {W : Type 0} (write : W → List Token) (mean : W → NamedExpr) (before ts : List Token) (x : NamedExpr × List Token) : Type 0 where
  pub written : W
  pub tokens : before ++ ts ≡ write written ++ x.1
  pub means : mean written ≡ x.0

element_sound : (k : ℕ) (f : ArrayName) (ts : List Token) (x : NamedExpr × List Token) → element_at k f ts ≡ Some x → Wrote factor factor_of (array f ∷ ts) x
element_sound k f [] x e = absurd cc
element_sound k f (tokens.Open ∷ ts) x e =
    let b = bind_some (term_at k ts) (λ t. close_at t.1 >>= λ rest. Some (exprs.Read f t.0, rest)) x e in
    let t = term_sound k ts b.0 b.1 in
    let c = bind_some (close_at b.0.1) (λ rest. Some (exprs.Read f b.0.0, rest)) x b.2 in
    let inside : ts ≡ (term t.written ++ tokens.Close ∷ []) ++ c.0 = t.tokens ∙ ap (λ (l : List Token). term t.written ++ l) (close_sound b.0.1 c.0 c.1) ∙ sym (append_assoc (term t.written) (tokens.Close ∷ []) c.0) in
    subst (Wrote factor factor_of (array f ∷ tokens.Open ∷ ts)) (some_is _ x c.2)
    (record { written = Factor.Element f t.written; tokens = ap (λ (l : List Token). array f ∷ tokens.Open ∷ l) inside; means = ap (exprs.Read f) t.means })
element_sound k f (_ ∷ ts) x e = absurd cc

named_sound : (k : ℕ) (name : List ℕ) (ts : List Token) (x : NamedExpr × List Token) → named_at k name ts ≡ Some x → Wrote factor factor_of (tokens.Name name ∷ ts) x
named_sound k name (tokens.Open ∷ ts) x e = element_sound k (arrays.Own name) (tokens.Open ∷ ts) x e
named_sound k name ts x e = subst (Wrote factor factor_of (tokens.Name name ∷ ts)) (some_is _ x e) (record { written = Factor.Local name; tokens = refl; means = refl })

left_sound : (ts rest : List Token) → left_at ts ≡ Some rest → ts ≡ tokens.Left ∷ rest
left_sound [] rest e = absurd cc
left_sound (tokens.Left ∷ ts) rest e = ap (λ (l : List Token). tokens.Left ∷ l) (some_is _ rest e)
left_sound (_ ∷ ts) rest e = absurd cc

comma_sound : (ts rest : List Token) → comma_at ts ≡ Some rest → ts ≡ tokens.Comma ∷ rest
comma_sound [] rest e = absurd cc
comma_sound (tokens.Comma ∷ ts) rest e = ap (λ (l : List Token). tokens.Comma ∷ l) (some_is _ rest e)
comma_sound (_ ∷ ts) rest e = absurd cc

right_sound : (e : NamedExpr) (ts : List Token) (x : NamedExpr × List Token) → right_at e ts ≡ Some x → (ts ≡ tokens.Right ∷ x.1) × (e ≡ x.0)
right_sound e [] x h = absurd cc
right_sound e (tokens.Right ∷ ts) x h = let same : (e, ts) ≡ x = some_is _ x h in (ap (λ (y : NamedExpr × List Token). tokens.Right ∷ y.1) same, ap (λ (y : NamedExpr × List Token). y.0) same)
right_sound e (_ ∷ ts) x h = absurd cc

-- ---- one step to the right

step_product : (op : Token) (o : Op) (make : Product → Factor → Product) (w : Product) (ts : List Token) (f : NamedExpr × List Token) (h : Wrote factor factor_of ts f) (x : NamedExpr × List Token)
    → ((p : Product) (q : Factor) → product (make p q) ≡ product p ++ op ∷ factor q)
    → Grows product product_of (product (make w h.written)) f.1 x → Grows product product_of (product w) (op ∷ ts) x
step_product op o make w ts f h x is g =
    record {
      written = g.written;
      tokens = ap (λ (l : List Token). product w ++ op ∷ l) h.tokens ∙ sym (append_assoc (product w) (op ∷ factor h.written) f.1) ∙ ap (λ (l : List Token). l ++ f.1) (sym (is w h.written)) ∙ g.tokens;
      means = g.means;
    }

step_sum : (op : Token) (make : Sum → Product → Sum) (w : Sum) (ts : List Token) (f : NamedExpr × List Token) (h : Wrote product product_of ts f) (x : NamedExpr × List Token)
    → ((p : Sum) (q : Product) → sum (make p q) ≡ sum p ++ op ∷ product q)
    → Grows sum sum_of (sum (make w h.written)) f.1 x → Grows sum sum_of (sum w) (op ∷ ts) x
step_sum op make w ts f h x is g =
    record {
      written = g.written;
      tokens = ap (λ (l : List Token). sum w ++ op ∷ l) h.tokens ∙ sym (append_assoc (sum w) (op ∷ product h.written) f.1) ∙ ap (λ (l : List Token). l ++ f.1) (sym (is w h.written)) ∙ g.tokens;
      means = g.means;
    }

stays_product : (w : Product) (e : NamedExpr) (ts : List Token) (x : NamedExpr × List Token) → product_of w ≡ e → Some (e, ts) ≡ Some x → Grows product product_of (product w) ts x
stays_product w e ts x m h = subst (Grows product product_of (product w) ts) (some_is _ x h) (record { written = w; tokens = refl; means = m })

stays_sum : (w : Sum) (e : NamedExpr) (ts : List Token) (x : NamedExpr × List Token) → sum_of w ≡ e → Some (e, ts) ≡ Some x → Grows sum sum_of (sum w) ts x
stays_sum w e ts x m h = subst (Grows sum sum_of (sum w) ts) (some_is _ x h) (record { written = w; tokens = refl; means = m })

joined : (op : Op) (a b c d : NamedExpr) → a ≡ b → c ≡ d → exprs.Op op a c ≡ exprs.Op op b d
joined op a b c d e f = rw (e, f) refl

-- two sums in parentheses, a comma between them
abbrev both_tokens : Sum → Sum → List Token
both_tokens s t = tokens.Left ∷ (sum s ++ tokens.Comma ∷ (sum t ++ tokens.Right ∷ []))

both_read : (s t : Sum) (ts first second third fourth rest : List Token)
    → ts ≡ tokens.Left ∷ first → first ≡ sum s ++ second → second ≡ tokens.Comma ∷ third → third ≡ sum t ++ fourth → fourth ≡ tokens.Right ∷ rest → ts ≡ both_tokens s t ++ rest
both_read s t ts first second third fourth rest a b c d e =
    let inner : third ≡ (sum t ++ tokens.Right ∷ []) ++ rest = d ∙ ap (λ (l : List Token). sum t ++ l) e ∙ sym (append_assoc (sum t) (tokens.Right ∷ []) rest) in
    let outer : first ≡ (sum s ++ tokens.Comma ∷ (sum t ++ tokens.Right ∷ [])) ++ rest = b ∙ ap (λ (l : List Token). sum s ++ l) (c ∙ ap (λ (l : List Token). tokens.Comma ∷ l) inner) ∙ sym (append_assoc (sum s) (tokens.Comma ∷ (sum t ++ tokens.Right ∷ [])) rest) in
    a ∙ ap (λ (l : List Token). tokens.Left ∷ l) outer

both_wrote : (op : Op) (key : Keyword) (make : Sum → Sum → Factor) (s t : Sum) (ts : List Token) (x : NamedExpr × List Token) (a b : NamedExpr)
    → ((s t : Sum) → factor (make s t) ≡ tokens.Word key ∷ both_tokens s t) → ((s t : Sum) → factor_of (make s t) ≡ exprs.Op op (sum_of s) (sum_of t))
    → ts ≡ both_tokens s t ++ x.1 → sum_of s ≡ a → sum_of t ≡ b → exprs.Op op a b ≡ x.0 → Wrote factor factor_of (tokens.Word key ∷ ts) x
both_wrote op key make s t ts x a b writes means is first second whole = record {
  written = make s t;
  tokens = ap (λ (l : List Token). tokens.Word key ∷ l) is ∙ ap (λ (l : List Token). l ++ x.1) (sym (writes s t));
  means = means s t ∙ joined op (sum_of s) a (sum_of t) b first second ∙ whole;
}

mutual
  pub factor_sound : (k : ℕ) (ts : List Token) (x : NamedExpr × List Token) → factor_at k ts ≡ Some x → Wrote factor factor_of ts x
  factor_sound zero ts x e = absurd cc
  factor_sound (suc k) [] x e = absurd cc
  factor_sound (suc k) (tokens.Zero ∷ ts) x e = subst (Wrote factor factor_of (tokens.Zero ∷ ts)) (some_is _ x e) (record { written = Factor.Literal Numeral.Zero; tokens = refl; means = refl })
  factor_sound (suc k) (tokens.One ∷ ts) x e = subst (Wrote factor factor_of (tokens.One ∷ ts)) (some_is _ x e) (record { written = Factor.Literal Numeral.One; tokens = refl; means = refl })
  factor_sound (suc k) (tokens.Number n ∷ ts) x e = subst (Wrote factor factor_of (tokens.Number n ∷ ts)) (some_is _ x e) (record { written = Factor.Literal (Numeral.Number n); tokens = refl; means = refl })
  factor_sound (suc k) (tokens.Name name ∷ ts) x e = named_sound k name ts x e
  factor_sound (suc k) (tokens.Dotted matrix part ∷ ts) x e = element_sound k (arrays.Dotted matrix part) ts x e
  factor_sound (suc k) (tokens.Left ∷ ts) x e =
      let b = bind_some (sum_at k ts) (λ x. right_at x.0 x.1) x e in
      let s = sum_sound k ts b.0 b.1 in
      let r = right_sound b.0.0 b.0.1 x b.2 in
      let inside : ts ≡ (sum s.written ++ tokens.Right ∷ []) ++ x.1 = s.tokens ∙ ap (λ (l : List Token). sum s.written ++ l) r.0 ∙ sym (append_assoc (sum s.written) (tokens.Right ∷ []) x.1) in
      record { written = Factor.Group s.written; tokens = ap (λ (l : List Token). tokens.Left ∷ l) inside; means = s.means ∙ r.1 }
  factor_sound (suc k) (tokens.Word keys.Min ∷ ts) x e = both_sound k ops.Min keys.Min Factor.Lesser ts x (λ s t. refl) (λ s t. refl) e
  factor_sound (suc k) (tokens.Word keys.Max ∷ ts) x e = both_sound k ops.Max keys.Max Factor.Greater ts x (λ s t. refl) (λ s t. refl) e
  factor_sound (suc k) (_ ∷ ts) x e = absurd cc

  both_sound : (k : ℕ) (op : Op) (key : Keyword) (make : Sum → Sum → Factor) (ts : List Token) (x : NamedExpr × List Token)
      → ((s t : Sum) → factor (make s t) ≡ tokens.Word key ∷ both_tokens s t) → ((s t : Sum) → factor_of (make s t) ≡ exprs.Op op (sum_of s) (sum_of t)) → both_at k op ts ≡ Some x → Wrote factor factor_of (tokens.Word key ∷ ts) x
  both_sound zero op key make ts x writes means e = absurd cc
  both_sound (suc k) op key make ts x writes means e =
      let l = bind_some (left_at ts) (λ r. sum_at k r >>= λ a. comma_at a.1 >>= λ s. sum_at k s >>= λ b. right_at (exprs.Op op a.0 b.0) b.1) x e in
      let a = bind_some (sum_at k l.0) (λ a. comma_at a.1 >>= λ s. sum_at k s >>= λ b. right_at (exprs.Op op a.0 b.0) b.1) x l.2 in
      let c = bind_some (comma_at a.0.1) (λ s. sum_at k s >>= λ b. right_at (exprs.Op op a.0.0 b.0) b.1) x a.2 in
      let b = bind_some (sum_at k c.0) (λ b. right_at (exprs.Op op a.0.0 b.0) b.1) x c.2 in
      let r = right_sound (exprs.Op op a.0.0 b.0.0) b.0.1 x b.2 in
      let s = sum_sound k l.0 a.0 a.1 in
      let t = sum_sound k c.0 b.0 b.1 in
      let is : ts ≡ both_tokens s.written t.written ++ x.1 = both_read s.written t.written ts l.0 a.0.1 c.0 b.0.1 x.1 (left_sound ts l.0 l.1) s.tokens (comma_sound a.0.1 c.0 c.1) t.tokens r.0 in
      both_wrote op key make s.written t.written ts x a.0.0 b.0.0 writes means is s.means t.means r.1

  pub product_sound : (k : ℕ) (ts : List Token) (x : NamedExpr × List Token) → product_at k ts ≡ Some x → Wrote product product_of ts x
  product_sound zero ts x e = absurd cc
  product_sound (suc k) ts x e =
      let b = bind_some (factor_at k ts) (λ x. factors_at k x.0 x.1) x e in
      let f = factor_sound k ts b.0 b.1 in
      let g = factors_sound k (Product.One f.written) b.0.0 b.0.1 x f.means b.2 in
      record { written = g.written; tokens = f.tokens ∙ g.tokens; means = g.means }

  factors_sound : (k : ℕ) (w : Product) (e : NamedExpr) (ts : List Token) (x : NamedExpr × List Token) → product_of w ≡ e → factors_at k e ts ≡ Some x → Grows product product_of (product w) ts x
  factors_sound zero w e ts x m h = absurd cc
  factors_sound (suc k) w e [] x m h = stays_product w e [] x m h
  factors_sound (suc k) w e (tokens.Times ∷ ts) x m h =
      let b = bind_some (factor_at k ts) (λ x. factors_at k (exprs.Op ops.Mul e x.0) x.1) x h in
      let f = factor_sound k ts b.0 b.1 in
      step_product tokens.Times ops.Mul Product.Times w ts b.0 f x (λ p q. refl) (factors_sound k (Product.Times w f.written) (exprs.Op ops.Mul e b.0.0) b.0.1 x (joined ops.Mul _ _ _ _ m f.means) b.2)
  factors_sound (suc k) w e (tokens.Over ∷ ts) x m h =
      let b = bind_some (factor_at k ts) (λ x. factors_at k (exprs.Op ops.Quot e x.0) x.1) x h in
      let f = factor_sound k ts b.0 b.1 in
      step_product tokens.Over ops.Quot Product.Over w ts b.0 f x (λ p q. refl) (factors_sound k (Product.Over w f.written) (exprs.Op ops.Quot e b.0.0) b.0.1 x (joined ops.Quot _ _ _ _ m f.means) b.2)
  factors_sound (suc k) w e (t ∷ ts) x m h = stays_product w e (t ∷ ts) x m h

  pub sum_sound : (k : ℕ) (ts : List Token) (x : NamedExpr × List Token) → sum_at k ts ≡ Some x → Wrote sum sum_of ts x
  sum_sound zero ts x e = absurd cc
  sum_sound (suc k) ts x e =
      let b = bind_some (product_at k ts) (λ x. products_at k x.0 x.1) x e in
      let f = product_sound k ts b.0 b.1 in
      let g = products_sound k (Sum.Alone f.written) b.0.0 b.0.1 x f.means b.2 in
      record { written = g.written; tokens = f.tokens ∙ g.tokens; means = g.means }

  products_sound : (k : ℕ) (w : Sum) (e : NamedExpr) (ts : List Token) (x : NamedExpr × List Token) → sum_of w ≡ e → products_at k e ts ≡ Some x → Grows sum sum_of (sum w) ts x
  products_sound zero w e ts x m h = absurd cc
  products_sound (suc k) w e [] x m h = stays_sum w e [] x m h
  products_sound (suc k) w e (tokens.Plus ∷ ts) x m h =
      let b = bind_some (product_at k ts) (λ x. products_at k (exprs.Op ops.Add e x.0) x.1) x h in
      let f = product_sound k ts b.0 b.1 in
      step_sum tokens.Plus Sum.Plus w ts b.0 f x (λ p q. refl) (products_sound k (Sum.Plus w f.written) (exprs.Op ops.Add e b.0.0) b.0.1 x (joined ops.Add _ _ _ _ m f.means) b.2)
  products_sound (suc k) w e (tokens.Minus ∷ ts) x m h =
      let b = bind_some (product_at k ts) (λ x. products_at k (exprs.Op ops.Sub e x.0) x.1) x h in
      let f = product_sound k ts b.0 b.1 in
      step_sum tokens.Minus Sum.Minus w ts b.0 f x (λ p q. refl) (products_sound k (Sum.Minus w f.written) (exprs.Op ops.Sub e b.0.0) b.0.1 x (joined ops.Sub _ _ _ _ m f.means) b.2)
  products_sound (suc k) w e (t ∷ ts) x m h = stays_sum w e (t ∷ ts) x m h

-- ---- what is written is read

-- no bracket follows, no factor follows, and nothing of a product or a sum follows
abbrev pub ends_factor : List Token → Bool
ends_factor (tokens.Open ∷ ts) = false
ends_factor _ = true

abbrev pub ends_product : List Token → Bool
ends_product (tokens.Open ∷ ts) = false
ends_product (tokens.Times ∷ ts) = false
ends_product (tokens.Over ∷ ts) = false
ends_product _ = true

abbrev pub ends_sum : List Token → Bool
ends_sum (tokens.Open ∷ ts) = false
ends_sum (tokens.Times ∷ ts) = false
ends_sum (tokens.Over ∷ ts) = false
ends_sum (tokens.Plus ∷ ts) = false
ends_sum (tokens.Minus ∷ ts) = false
ends_sum _ = true

product_factor : (ts : List Token) → ends_product ts ≡ true → ends_factor ts ≡ true
product_factor [] e = refl
product_factor (tokens.Open ∷ ts) e = e
product_factor (tokens.Times ∷ ts) e = refl
product_factor (tokens.Over ∷ ts) e = refl
product_factor (_ ∷ ts) e = refl

sum_product : (ts : List Token) → ends_sum ts ≡ true → ends_product ts ≡ true
sum_product [] e = refl
sum_product (tokens.Open ∷ ts) e = e
sum_product (tokens.Times ∷ ts) e = e
sum_product (tokens.Over ∷ ts) e = e
sum_product (tokens.Plus ∷ ts) e = refl
sum_product (tokens.Minus ∷ ts) e = refl
sum_product (_ ∷ ts) e = refl

factors_end : (k : ℕ) (e : NamedExpr) (ts : List Token) → 0 < k → ends_product ts ≡ true → factors_at k e ts ≡ Some (e, ts)
factors_end zero e ts lt h = absurd (omega arith)
factors_end (suc k) e [] lt h = refl
factors_end (suc k) e (tokens.Open ∷ ts) lt h = absurd cc
factors_end (suc k) e (tokens.Times ∷ ts) lt h = absurd cc
factors_end (suc k) e (tokens.Over ∷ ts) lt h = absurd cc
factors_end (suc k) e (_ ∷ ts) lt h = refl

products_end : (k : ℕ) (e : NamedExpr) (ts : List Token) → 0 < k → ends_sum ts ≡ true → products_at k e ts ≡ Some (e, ts)
products_end zero e ts lt h = absurd (omega arith)
products_end (suc k) e [] lt h = refl
products_end (suc k) e (tokens.Open ∷ ts) lt h = absurd cc
products_end (suc k) e (tokens.Times ∷ ts) lt h = absurd cc
products_end (suc k) e (tokens.Over ∷ ts) lt h = absurd cc
products_end (suc k) e (tokens.Plus ∷ ts) lt h = absurd cc
products_end (suc k) e (tokens.Minus ∷ ts) lt h = absurd cc
products_end (suc k) e (_ ∷ ts) lt h = refl

-- how many calls stand in one another
abbrev mutual
  pub cost_factor : Factor → ℕ
  cost_factor (Factor.Literal n) = 1
  cost_factor (Factor.Element f t) = suc (height t)
  cost_factor (Factor.Local name) = 1
  cost_factor (Factor.Group s) = suc (cost_sum s)
  cost_factor (Factor.Lesser s t) = suc (suc (cost_sum s + cost_sum t))
  cost_factor (Factor.Greater s t) = suc (suc (cost_sum s + cost_sum t))

  pub cost_product : Product → ℕ
  cost_product (Product.One f) = suc (cost_factor f)
  cost_product (Product.Times p f) = suc (cost_product p + cost_factor f)
  cost_product (Product.Over p f) = suc (cost_product p + cost_factor f)

  pub cost_sum : Sum → ℕ
  cost_sum (Sum.Alone p) = suc (cost_product p)
  cost_sum (Sum.Plus s p) = suc (cost_sum s + cost_product p)
  cost_sum (Sum.Minus s p) = suc (cost_sum s + cost_product p)

abbrev factors_in : Product → ℕ
factors_in (Product.One f) = 1
factors_in (Product.Times p f) = suc (factors_in p)
factors_in (Product.Over p f) = suc (factors_in p)

abbrev products_in : Sum → ℕ
products_in (Sum.Alone p) = 1
products_in (Sum.Plus s p) = suc (products_in s)
products_in (Sum.Minus s p) = suc (products_in s)

some_factor : (f : Factor) → 0 < cost_factor f
some_factor (Factor.Literal n) = omega arith
some_factor (Factor.Element f t) = omega arith
some_factor (Factor.Local name) = omega arith
some_factor (Factor.Group s) = omega arith
some_factor (Factor.Lesser s t) = omega arith
some_factor (Factor.Greater s t) = omega arith

few_factors : (p : Product) → factors_in p < cost_product p
few_factors (Product.One f) = let h = some_factor f in omega (arith, h)
few_factors (Product.Times p f) = let h = few_factors p in omega (arith, h)
few_factors (Product.Over p f) = let h = few_factors p in omega (arith, h)

few_products : (s : Sum) → products_in s < cost_sum s
few_products (Sum.Alone p) = let h = few_factors p in omega (arith, h)
few_products (Sum.Plus s p) = let h = few_products s in omega (arith, h)
few_products (Sum.Minus s p) = let h = few_products s in omega (arith, h)

-- after its factors a product is read as far as its value stands at the left
pub record Reaches (read : Option (NamedExpr × List Token)) (more : ℕ → NamedExpr → List Token → Option (NamedExpr × List Token)) (k turns : ℕ) (e : NamedExpr) (rest : List Token) : Type 0 where
  pub left : ℕ
  pub turns_left : left + turns ≡ k
  pub same : read ≡ more left e rest

element_again : (k : ℕ) (f : ArrayName) (t : Written) (rest : List Token) → height t ≤ k → element_at k f (tokens.Open ∷ ((term t ++ tokens.Close ∷ []) ++ rest)) ≡ Some (exprs.Read f (meaning t), rest)
element_again k f t rest le =
    let inner = term_again t k (tokens.Close ∷ rest) le refl in
    rw (append_assoc (term t) (tokens.Close ∷ []) rest, inner) refl

named_again : (k : ℕ) (name : List ℕ) (rest : List Token) → ends_factor rest ≡ true → named_at k name rest ≡ Some (exprs.Local name, rest)
named_again k name (tokens.Open ∷ ts) e = absurd cc
named_again k name _ e = refl

both_again : (s t : Sum) (op : Op) (k : ℕ) (rest : List Token)
    → sum_at k (sum s ++ (tokens.Comma ∷ (sum t ++ (tokens.Right ∷ rest)))) ≡ Some (sum_of s, tokens.Comma ∷ (sum t ++ (tokens.Right ∷ rest)))
    → sum_at k (sum t ++ (tokens.Right ∷ rest)) ≡ Some (sum_of t, tokens.Right ∷ rest)
    → both_at (suc k) op (both_tokens s t ++ rest) ≡ Some (exprs.Op op (sum_of s) (sum_of t), rest)
both_again s t op k rest first second =
    let is : both_tokens s t ++ rest ≡ tokens.Left ∷ (sum s ++ (tokens.Comma ∷ (sum t ++ (tokens.Right ∷ rest)))) = ap (λ (l : List Token). tokens.Left ∷ l) (append_assoc (sum s) (tokens.Comma ∷ (sum t ++ tokens.Right ∷ [])) rest ∙ ap (λ (l : List Token). sum s ++ (tokens.Comma ∷ l)) (append_assoc (sum t) (tokens.Right ∷ []) rest)) in
    let read : both_at (suc k) op (tokens.Left ∷ (sum s ++ (tokens.Comma ∷ (sum t ++ (tokens.Right ∷ rest))))) ≡ Some (exprs.Op op (sum_of s) (sum_of t), rest) = rw (first, second) refl in
    ap (both_at (suc k) op) is ∙ read

product_end : (w : Product) (k : ℕ) (rest : List Token) → cost_product w ≤ k → ends_product rest ≡ true → Reaches (product_at k (product w ++ rest)) factors_at k (factors_in w) (product_of w) rest → product_at k (product w ++ rest) ≡ Some (product_of w, rest)
product_end w k rest le e h =
    let few = few_factors w in
    h.same ∙ factors_end h.left (product_of w) rest (omega (arith, few, h.turns_left)) e

sum_end : (w : Sum) (k : ℕ) (rest : List Token) → cost_sum w ≤ k → ends_sum rest ≡ true → Reaches (sum_at k (sum w ++ rest)) products_at k (products_in w) (sum_of w) rest → sum_at k (sum w ++ rest) ≡ Some (sum_of w, rest)
sum_end w k rest le e h =
    let few = few_products w in
    h.same ∙ products_end h.left (sum_of w) rest (omega (arith, few, h.turns_left)) e

-- one more factor
times_on : (k j : ℕ) (e : NamedExpr) (f : Factor) (rest : List Token) → k ≡ suc j → factor_at j (factor f ++ rest) ≡ Some (factor_of f, rest) → factors_at k e (tokens.Times ∷ (factor f ++ rest)) ≡ factors_at j (exprs.Op ops.Mul e (factor_of f)) rest
times_on k j e f rest is h = rw (is, h) refl

over_on : (k j : ℕ) (e : NamedExpr) (f : Factor) (rest : List Token) → k ≡ suc j → factor_at j (factor f ++ rest) ≡ Some (factor_of f, rest) → factors_at k e (tokens.Over ∷ (factor f ++ rest)) ≡ factors_at j (exprs.Op ops.Quot e (factor_of f)) rest
over_on k j e f rest is h = rw (is, h) refl

plus_on : (k j : ℕ) (e : NamedExpr) (p : Product) (rest : List Token) → k ≡ suc j → product_at j (product p ++ rest) ≡ Some (product_of p, rest) → products_at k e (tokens.Plus ∷ (product p ++ rest)) ≡ products_at j (exprs.Op ops.Add e (product_of p)) rest
plus_on k j e p rest is h = rw (is, h) refl

minus_on : (k j : ℕ) (e : NamedExpr) (p : Product) (rest : List Token) → k ≡ suc j → product_at j (product p ++ rest) ≡ Some (product_of p, rest) → products_at k e (tokens.Minus ∷ (product p ++ rest)) ≡ products_at j (exprs.Op ops.Sub e (product_of p)) rest
minus_on k j e p rest is h = rw (is, h) refl

mutual
  pub factor_again : (w : Factor) (k : ℕ) (rest : List Token) → cost_factor w ≤ k → ends_factor rest ≡ true → factor_at k (factor w ++ rest) ≡ Some (factor_of w, rest)
  factor_again (Factor.Literal n) zero rest le e = absurd (omega arith)
  factor_again (Factor.Literal Numeral.Zero) (suc k) rest le e = refl
  factor_again (Factor.Literal Numeral.One) (suc k) rest le e = refl
  factor_again (Factor.Literal (Numeral.Number n)) (suc k) rest le e = refl
  factor_again (Factor.Element f t) zero rest le e = absurd (omega arith)
  factor_again (Factor.Element (arrays.Own name) t) (suc k) rest le e = element_again k (arrays.Own name) t rest (omega arith)
  factor_again (Factor.Element (arrays.Dotted matrix part) t) (suc k) rest le e = element_again k (arrays.Dotted matrix part) t rest (omega arith)
  factor_again (Factor.Local name) zero rest le e = absurd (omega arith)
  factor_again (Factor.Local name) (suc k) rest le e = named_again k name rest e
  factor_again (Factor.Group s) zero rest le e = absurd (omega arith)
  factor_again (Factor.Group s) (suc k) rest le e =
      let fits : cost_sum s ≤ k = omega arith in
      let inner = sum_end s k (tokens.Right ∷ rest) fits refl (sum_steps s k (tokens.Right ∷ rest) fits refl) in
      rw (append_assoc (sum s) (tokens.Right ∷ []) rest, inner) refl
  factor_again (Factor.Lesser s t) zero rest le e = absurd (omega arith)
  factor_again (Factor.Lesser s t) (suc zero) rest le e = absurd (omega arith)
  factor_again (Factor.Lesser s t) (suc (suc k)) rest le e =
      let left : cost_sum s ≤ k = omega arith in
      let right : cost_sum t ≤ k = omega arith in
      let after : List Token = tokens.Comma ∷ (sum t ++ (tokens.Right ∷ rest)) in
      let first = sum_end s k after left refl (sum_steps s k after left refl) in
      let second = sum_end t k (tokens.Right ∷ rest) right refl (sum_steps t k (tokens.Right ∷ rest) right refl) in
      both_again s t ops.Min k rest first second
  factor_again (Factor.Greater s t) zero rest le e = absurd (omega arith)
  factor_again (Factor.Greater s t) (suc zero) rest le e = absurd (omega arith)
  factor_again (Factor.Greater s t) (suc (suc k)) rest le e =
      let left : cost_sum s ≤ k = omega arith in
      let right : cost_sum t ≤ k = omega arith in
      let after : List Token = tokens.Comma ∷ (sum t ++ (tokens.Right ∷ rest)) in
      let first = sum_end s k after left refl (sum_steps s k after left refl) in
      let second = sum_end t k (tokens.Right ∷ rest) right refl (sum_steps t k (tokens.Right ∷ rest) right refl) in
      both_again s t ops.Max k rest first second

  product_steps : (w : Product) (k : ℕ) (rest : List Token) → cost_product w ≤ k → ends_factor rest ≡ true → Reaches (product_at k (product w ++ rest)) factors_at k (factors_in w) (product_of w) rest
  product_steps (Product.One f) zero rest le e = absurd (omega arith)
  product_steps (Product.One f) (suc k) rest le e =
      let inner = factor_again f k rest (omega arith) e in
      record { left = k; turns_left = omega arith; same = rw inner refl }
  product_steps (Product.Times p f) k rest le e =
      let h = product_steps p k (tokens.Times ∷ (factor f ++ rest)) (omega arith) refl in
      let few = few_factors p in
      let j : h.left ≡ suc (h.left - 1) = omega (arith, few, h.turns_left) in
      let inner = factor_again f (h.left - 1) rest (omega (arith, few, h.turns_left)) e in
      record {
        left = h.left - 1;
        turns_left = omega (arith, j, h.turns_left);
        same = ap (product_at k) (append_assoc (product p) (tokens.Times ∷ factor f) rest) ∙ h.same ∙ times_on h.left (h.left - 1) (product_of p) f rest j inner;
      }
  product_steps (Product.Over p f) k rest le e =
      let h = product_steps p k (tokens.Over ∷ (factor f ++ rest)) (omega arith) refl in
      let few = few_factors p in
      let j : h.left ≡ suc (h.left - 1) = omega (arith, few, h.turns_left) in
      let inner = factor_again f (h.left - 1) rest (omega (arith, few, h.turns_left)) e in
      record {
        left = h.left - 1;
        turns_left = omega (arith, j, h.turns_left);
        same = ap (product_at k) (append_assoc (product p) (tokens.Over ∷ factor f) rest) ∙ h.same ∙ over_on h.left (h.left - 1) (product_of p) f rest j inner;
      }

  sum_steps : (w : Sum) (k : ℕ) (rest : List Token) → cost_sum w ≤ k → ends_product rest ≡ true → Reaches (sum_at k (sum w ++ rest)) products_at k (products_in w) (sum_of w) rest
  sum_steps (Sum.Alone p) zero rest le e = absurd (omega arith)
  sum_steps (Sum.Alone p) (suc k) rest le e =
      let fits : cost_product p ≤ k = omega arith in
      let inner = product_end p k rest fits e (product_steps p k rest fits (product_factor rest e)) in
      record { left = k; turns_left = omega arith; same = rw inner refl }
  sum_steps (Sum.Plus s p) k rest le e =
      let h = sum_steps s k (tokens.Plus ∷ (product p ++ rest)) (omega arith) refl in
      let few = few_products s in
      let j : h.left ≡ suc (h.left - 1) = omega (arith, few, h.turns_left) in
      let fits : cost_product p ≤ h.left - 1 = omega (arith, few, h.turns_left) in
      let inner = product_end p (h.left - 1) rest fits e (product_steps p (h.left - 1) rest fits (product_factor rest e)) in
      record {
        left = h.left - 1;
        turns_left = omega (arith, j, h.turns_left);
        same = ap (sum_at k) (append_assoc (sum s) (tokens.Plus ∷ product p) rest) ∙ h.same ∙ plus_on h.left (h.left - 1) (sum_of s) p rest j inner;
      }
  sum_steps (Sum.Minus s p) k rest le e =
      let h = sum_steps s k (tokens.Minus ∷ (product p ++ rest)) (omega arith) refl in
      let few = few_products s in
      let j : h.left ≡ suc (h.left - 1) = omega (arith, few, h.turns_left) in
      let fits : cost_product p ≤ h.left - 1 = omega (arith, few, h.turns_left) in
      let inner = product_end p (h.left - 1) rest fits e (product_steps p (h.left - 1) rest fits (product_factor rest e)) in
      record {
        left = h.left - 1;
        turns_left = omega (arith, j, h.turns_left);
        same = ap (sum_at k) (append_assoc (sum s) (tokens.Minus ∷ product p) rest) ∙ h.same ∙ minus_on h.left (h.left - 1) (sum_of s) p rest j inner;
      }

pub sum_again : (w : Sum) (k : ℕ) (rest : List Token) → cost_sum w ≤ k → ends_sum rest ≡ true → sum_at k (sum w ++ rest) ≡ Some (sum_of w, rest)
sum_again w k rest le e = sum_end w k rest le e (sum_steps w k rest le (sum_product rest e))

-- ---- three calls a token are enough

numeral_one : (n : Numeral) → length (numeral n) ≡ 1
numeral_one Numeral.Zero = refl
numeral_one Numeral.One = refl
numeral_one (Numeral.Number n) = refl

pub term_some : (w : Written) → height w ≤ length (term w)
term_some (Written.Constant n) = let h = numeral_one n in omega (arith, h)
term_some (Written.Negative n) = omega arith
term_some (Written.Shifted a s) = omega arith
term_some (Written.Entry f t s) = let h = term_some t in omega (arith, h, length-append (term t) (tokens.Close ∷ shift s))

mutual
  factor_cost : (w : Factor) → cost_factor w + 2 ≤ 3 * length (factor w)
  factor_cost (Factor.Literal n) = let h = numeral_one n in omega (arith, h)
  factor_cost (Factor.Element f t) = let h = term_some t in omega (arith, h, length-append (term t) (tokens.Close ∷ []))
  factor_cost (Factor.Local name) = omega arith
  factor_cost (Factor.Group s) = let h = sum_cost s in omega (arith, h, length-append (sum s) (tokens.Right ∷ []))
  factor_cost (Factor.Lesser s t) = let h = sum_cost s in let g = sum_cost t in omega (arith, h, g, length-append (sum s) (tokens.Comma ∷ (sum t ++ tokens.Right ∷ [])), length-append (sum t) (tokens.Right ∷ []))
  factor_cost (Factor.Greater s t) = let h = sum_cost s in let g = sum_cost t in omega (arith, h, g, length-append (sum s) (tokens.Comma ∷ (sum t ++ tokens.Right ∷ [])), length-append (sum t) (tokens.Right ∷ []))

  product_cost : (w : Product) → cost_product w + 1 ≤ 3 * length (product w)
  product_cost (Product.One f) = let h = factor_cost f in omega (arith, h)
  product_cost (Product.Times p f) = let h = product_cost p in let g = factor_cost f in omega (arith, h, g, length-append (product p) (tokens.Times ∷ factor f))
  product_cost (Product.Over p f) = let h = product_cost p in let g = factor_cost f in omega (arith, h, g, length-append (product p) (tokens.Over ∷ factor f))

  pub sum_cost : (w : Sum) → cost_sum w ≤ 3 * length (sum w)
  sum_cost (Sum.Alone p) = let h = product_cost p in omega (arith, h)
  sum_cost (Sum.Plus s p) = let h = sum_cost s in let g = product_cost p in omega (arith, h, g, length-append (sum s) (tokens.Plus ∷ product p))
  sum_cost (Sum.Minus s p) = let h = sum_cost s in let g = product_cost p in omega (arith, h, g, length-append (sum s) (tokens.Minus ∷ product p))

-- ---- a whole line

all_is : (x : NamedExpr × List Token) (e : NamedExpr) → all_read x.0 x.1 ≡ Some e → (x.1 ≡ []) × (x.0 ≡ e)
all_is x e = go x.1
  where
    go : (ts : List Token) → all_read x.0 ts ≡ Some e → (ts ≡ []) × (x.0 ≡ e)
    go [] h = (refl, some_is _ _ h)
    go (t ∷ ts) h = absurd cc

pub whole_sound : (k : ℕ) (ts : List Token) (e : NamedExpr) → (sum_at k ts >>= λ x. all_read x.0 x.1) ≡ Some e → IsExpr ts e
whole_sound k ts e h =
    let b = bind_some (sum_at k ts) (λ x. all_read x.0 x.1) e h in
    let s = sum_sound k ts b.0 b.1 in
    let a = all_is b.0 e b.2 in
    record { written = s.written; tokens = s.tokens ∙ ap (λ (l : List Token). sum s.written ++ l) a.0 ∙ append-nil (sum s.written); means = s.means ∙ a.1 }

pub whole_again : (w : Sum) (k : ℕ) → 3 * length (sum w) ≤ k → (sum_at k (sum w) >>= λ x. all_read x.0 x.1) ≡ Some (sum_of w)
whole_again w k le =
    let cost = sum_cost w in
    let one : sum_at k (sum w) ≡ Some (sum_of w, []) = ap (sum_at k) (sym (append-nil (sum w))) ∙ sum_again w k [] (omega (arith, cost)) refl in
    rw one refl
