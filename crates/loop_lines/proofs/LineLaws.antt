-- What is read is a line of the grammar, and a line of the grammar is read.
use Rattle.std.proofs.Common.{◌≡◌, ℕ, ℤ, ◌*◌, true, List, [], ◌∷◌, ◌++◌, length, Option, Some, None, refl, sym, ap, subst, ◌∙◌, arith}
use Rattle.std.proofs.lemmas.List.{length-append, append-nil}
use Rattle.loop_core.specs.declared.decl.Form.{Form}
use Rattle.loop_core.specs.declared.decl.Form.TheVariants.{Csr, Csc}
use Rattle.loop_core.specs.declared.decl.Size.{Size}
use Rattle.loop_core.specs.declared.decl.Size.TheVariants as sizes
use Rattle.loop_core.specs.declared.decl.Source.{Source}
use Rattle.loop_core.specs.declared.decl.Source.TheVariants.{File, Zeros}
use Rattle.loop_core.specs.declared.nest.Rel.{Rel}
use Rattle.loop_core.specs.declared.nest.Rel.TheVariants as rels
use Rattle.loop_lines.specs.declared.token.Keyword.{Keyword}
use Rattle.loop_lines.specs.declared.token.Keyword.TheVariants as keys
use Rattle.loop_lines.specs.declared.token.Token.{Token}
use Rattle.loop_lines.specs.declared.token.Token.TheVariants as tokens
use Rattle.loop_lines.specs.declared.tree.ArrayName.{ArrayName}
use Rattle.loop_lines.specs.declared.tree.NamedAtom.TheVariants as atoms
use Rattle.loop_lines.specs.declared.tree.NamedTerm.{NamedTerm}
use Rattle.loop_lines.specs.declared.tree.NamedExpr.{NamedExpr}
use Rattle.loop_lines.specs.declared.line.NamedProp.{NamedProp}
use Rattle.loop_lines.specs.declared.line.NamedProp.TheVariants as props
use Rattle.loop_lines.specs.declared.line.Line.{Line}
use Rattle.loop_lines.specs.declared.line.Line.TheVariants as lines
use Rattle.loop_lines.specs.Grammar.{Numeral, Written, array, term, meaning}
use Rattle.loop_lines.specs.Exprs.{Sum, sum, sum_of}
use Rattle.loop_lines.specs.Lines.{Bound, bound, WrittenLine, form, size, source, rel, by_pair, line, line_of, IsLine}
use Rattle.loop_lines.specs.Reading.{◌>>=◌, or_else, array_at, entry_at, close_at, zero_at, negated_at, constant}
use Rattle.loop_lines.specs.LineReading.{end_at, name_at, in_at, of_at, by_at, to_at, assign_at, rel_at, form_at, one_at, longer_at, size_at, source_at, matrix_at, index_at, last_source_at, vector_at, local_at, alone_at, pair_at, by_pair_at, diagonal_at, bound_at, last_bound_at, range_at, loop_at, free_term_at, last_term_at, terms_at, for_at, when_at, value_at, kept_at, keep_at, assigned_at, put_at, set_at, last_at, prop_at, form_line_at, line_at}
use Rattle.loop_lines.proofs.TermLaws.{Wrote, bind_some, some_is, negated_sound, negated_again, shifted_sound, array_sound, entry_sound, close_sound, term_sound, term_again, ends_term, shifted_again, zero_again, array_again}
use Rattle.loop_lines.proofs.ExprLaws.{whole_sound, whole_again, term_some}

bind2 : {A B C : Type 0} (o : Option A) (f : A → Option B) (h : A → B → C) (y : C) → (o >>= λ a. f a >>= λ b. Some (h a b)) ≡ Some y → (a : A) × (b : B) × (o ≡ Some a) × (f a ≡ Some b) × (h a b ≡ y)
bind2 o f h y e =
    let a = bind_some o (λ a. f a >>= λ b. Some (h a b)) y e in
    let b = bind_some (f a.0) (λ b. Some (h a.0 b)) y a.2 in
    (a.0, b.0, a.1, b.1, some_is _ _ b.2)

bind3 : {A B C D : Type 0} (o : Option A) (f : A → Option B) (g : A → B → Option C) (h : A → B → C → D) (y : D) → (o >>= λ a. f a >>= λ b. g a b >>= λ c. Some (h a b c)) ≡ Some y → (a : A) × (b : B) × (c : C) × (o ≡ Some a) × (f a ≡ Some b) × (g a b ≡ Some c) × (h a b c ≡ y)
bind3 o f g h y e =
    let a = bind_some o (λ a. f a >>= λ b. g a b >>= λ c. Some (h a b c)) y e in
    let b = bind2 (f a.0) (g a.0) (h a.0) y a.2 in
    (a.0, b.0, b.1, a.1, b.2, b.3, b.4)

-- what all of the tokens were read as
record Whole {W A : Type 0} (write : W → List Token) (mean : W → A) (ts : List Token) (x : A) : Type 0 where
  written : W
  tokens : ts ≡ write written
  means : mean written ≡ x

-- ---- single words and signs

end_sound : (ts : List Token) (u : Unit {0}) → end_at ts ≡ Some u → ts ≡ []
end_sound [] u e = refl
end_sound (t ∷ ts) u e = absurd cc

name_sound : (ts : List Token) (x : List ℕ × List Token) → name_at ts ≡ Some x → ts ≡ tokens.Name x.0 ∷ x.1
name_sound [] x e = absurd cc
name_sound (tokens.Name name ∷ ts) x e = ap (λ (y : List ℕ × List Token). tokens.Name y.0 ∷ y.1) (some_is _ x e)
name_sound (_ ∷ ts) x e = absurd cc

in_word : (k : Keyword) (ts rest : List Token) → in_at (tokens.Word k ∷ ts) ≡ Some rest → tokens.Word k ∷ ts ≡ tokens.Word keys.In ∷ rest
in_word keys.In ts rest e = ap (λ (l : List Token). tokens.Word keys.In ∷ l) (some_is _ rest e)
in_word _ ts rest e = absurd cc

in_sound : (ts rest : List Token) → in_at ts ≡ Some rest → ts ≡ tokens.Word keys.In ∷ rest
in_sound [] rest e = absurd cc
in_sound (tokens.Word k ∷ ts) rest e = in_word k ts rest e
in_sound (_ ∷ ts) rest e = absurd cc

of_word : (k : Keyword) (ts rest : List Token) → of_at (tokens.Word k ∷ ts) ≡ Some rest → tokens.Word k ∷ ts ≡ tokens.Word keys.Of ∷ rest
of_word keys.Of ts rest e = ap (λ (l : List Token). tokens.Word keys.Of ∷ l) (some_is _ rest e)
of_word _ ts rest e = absurd cc

of_sound : (ts rest : List Token) → of_at ts ≡ Some rest → ts ≡ tokens.Word keys.Of ∷ rest
of_sound [] rest e = absurd cc
of_sound (tokens.Word k ∷ ts) rest e = of_word k ts rest e
of_sound (_ ∷ ts) rest e = absurd cc

by_word : (k : Keyword) (ts rest : List Token) → by_at (tokens.Word k ∷ ts) ≡ Some rest → tokens.Word k ∷ ts ≡ tokens.Word keys.By ∷ rest
by_word keys.By ts rest e = ap (λ (l : List Token). tokens.Word keys.By ∷ l) (some_is _ rest e)
by_word _ ts rest e = absurd cc

by_sound : (ts rest : List Token) → by_at ts ≡ Some rest → ts ≡ tokens.Word keys.By ∷ rest
by_sound [] rest e = absurd cc
by_sound (tokens.Word k ∷ ts) rest e = by_word k ts rest e
by_sound (_ ∷ ts) rest e = absurd cc

to_sound : (ts rest : List Token) → to_at ts ≡ Some rest → ts ≡ tokens.To ∷ rest
to_sound [] rest e = absurd cc
to_sound (tokens.To ∷ ts) rest e = ap (λ (l : List Token). tokens.To ∷ l) (some_is _ rest e)
to_sound (_ ∷ ts) rest e = absurd cc

assign_sound : (ts rest : List Token) → assign_at ts ≡ Some rest → ts ≡ tokens.Assign ∷ rest
assign_sound [] rest e = absurd cc
assign_sound (tokens.Assign ∷ ts) rest e = ap (λ (l : List Token). tokens.Assign ∷ l) (some_is _ rest e)
assign_sound (_ ∷ ts) rest e = absurd cc

rel_sound : (ts : List Token) (x : Rel × List Token) → rel_at ts ≡ Some x → ts ≡ rel x.0 ∷ x.1
rel_sound [] x e = absurd cc
rel_sound (tokens.Equal ∷ ts) x e = ap (λ (y : Rel × List Token). rel y.0 ∷ y.1) (some_is _ x e)
rel_sound (tokens.Less ∷ ts) x e = ap (λ (y : Rel × List Token). rel y.0 ∷ y.1) (some_is _ x e)
rel_sound (tokens.AtMost ∷ ts) x e = ap (λ (y : Rel × List Token). rel y.0 ∷ y.1) (some_is _ x e)
rel_sound (_ ∷ ts) x e = absurd cc

form_word : (k : Keyword) (ts : List Token) (x : Form × List Token) → form_at (tokens.Word k ∷ ts) ≡ Some x → tokens.Word k ∷ ts ≡ form x.0 ∷ x.1
form_word keys.Csr ts x e = ap (λ (y : Form × List Token). form y.0 ∷ y.1) (some_is _ x e)
form_word keys.Csc ts x e = ap (λ (y : Form × List Token). form y.0 ∷ y.1) (some_is _ x e)
form_word _ ts x e = absurd cc

form_sound : (ts : List Token) (x : Form × List Token) → form_at ts ≡ Some x → ts ≡ form x.0 ∷ x.1
form_sound [] x e = absurd cc
form_sound (tokens.Word k ∷ ts) x e = form_word k ts x e
form_sound (_ ∷ ts) x e = absurd cc

source_word : (k : Keyword) (ts : List Token) (x : Source × List Token) → source_at (tokens.Word k ∷ ts) ≡ Some x → tokens.Word k ∷ ts ≡ source x.0 ∷ x.1
source_word keys.File ts x e = ap (λ (y : Source × List Token). source y.0 ∷ y.1) (some_is _ x e)
source_word keys.Zero ts x e = ap (λ (y : Source × List Token). source y.0 ∷ y.1) (some_is _ x e)
source_word _ ts x e = absurd cc

source_sound : (ts : List Token) (x : Source × List Token) → source_at ts ≡ Some x → ts ≡ source x.0 ∷ x.1
source_sound [] x e = absurd cc
source_sound (tokens.Word k ∷ ts) x e = source_word k ts x e
source_sound (_ ∷ ts) x e = absurd cc

one_sound : (ts : List Token) (x : Size × List Token) → one_at ts ≡ Some x → tokens.N ∷ tokens.Plus ∷ ts ≡ size x.0 ++ x.1
one_sound [] x e = absurd cc
one_sound (tokens.One ∷ ts) x e = ap (λ (y : Size × List Token). size y.0 ++ y.1) (some_is _ x e)
one_sound (_ ∷ ts) x e = absurd cc

longer_sound : (ts : List Token) (x : Size × List Token) → longer_at ts ≡ Some x → tokens.N ∷ ts ≡ size x.0 ++ x.1
longer_sound (tokens.Plus ∷ ts) x e = one_sound ts x e
longer_sound ts x e = ap (λ (y : Size × List Token). size y.0 ++ y.1) (some_is _ x e)

size_sound : (ts : List Token) (x : Size × List Token) → size_at ts ≡ Some x → ts ≡ size x.0 ++ x.1
size_sound [] x e = absurd cc
size_sound (tokens.N ∷ ts) x e = longer_sound ts x e
size_sound (tokens.Nnz ∷ ts) x e = ap (λ (y : Size × List Token). size y.0 ++ y.1) (some_is _ x e)
size_sound (_ ∷ ts) x e = absurd cc

-- ---- declarations

abbrev IsRead : List Token → Line → Type 0
IsRead ts l = Whole line line_of ts l

matrix_sound : (ts : List Token) (l : Line) → matrix_at ts ≡ Some l → IsRead (tokens.Word keys.Matrix ∷ ts) l
matrix_sound ts l e =
    let b = bind3 (name_at ts) (λ a. form_at a.1) (λ a f. end_at f.1) (λ a f u. lines.Matrix a.0 f.0) l e in
    let n = name_sound ts b.0 b.3 in
    let f = form_sound b.0.1 b.1 b.4 in
    let d = end_sound b.1.1 b.2 b.5 in
    record { written = WrittenLine.Matrix b.0.0 b.1.0; tokens = cc; means = b.6 }

index_sound : (ts : List Token) (l : Line) → index_at ts ≡ Some l → IsRead (tokens.Word keys.Index ∷ ts) l
index_sound ts l e =
    let b = bind3 (name_at ts) (λ a. size_at a.1) (λ a s. end_at s.1) (λ a s u. lines.Index a.0 s.0) l e in
    let n = name_sound ts b.0 b.3 in
    let s = size_sound b.0.1 b.1 b.4 ∙ ap (λ (r : List Token). size b.1.0 ++ r) (end_sound b.1.1 b.2 b.5) ∙ append-nil (size b.1.0) in
    record { written = WrittenLine.Index b.0.0 b.1.0; tokens = cc; means = b.6 }

last_source_sound : (ts : List Token) (c : Source) → last_source_at ts ≡ Some c → ts ≡ source c ∷ []
last_source_sound ts c e =
    let b = bind2 (source_at ts) (λ c. end_at c.1) (λ c u. c.0) c e in
    let s = source_sound ts b.0 b.2 in
    let d = end_sound b.0.1 b.1 b.3 in
    let m = b.4 in
    cc

vector_sound : (ts : List Token) (l : Line) → vector_at ts ≡ Some l → IsRead (tokens.Word keys.Vector ∷ ts) l
vector_sound ts l e =
    let b = bind3 (name_at ts) (λ a. size_at a.1) (λ a s. last_source_at s.1) (λ a s c. lines.Vector a.0 s.0 c) l e in
    let n = name_sound ts b.0 b.3 in
    let s = size_sound b.0.1 b.1 b.4 ∙ ap (λ (r : List Token). size b.1.0 ++ r) (last_source_sound b.1.1 b.2 b.5) in
    record { written = WrittenLine.Vector b.0.0 b.1.0 b.2; tokens = cc; means = b.6 }

local_sound : (ts : List Token) (l : Line) → local_at ts ≡ Some l → IsRead (tokens.Word keys.Local ∷ ts) l
local_sound ts l e =
    let b = bind2 (name_at ts) (λ a. end_at a.1) (λ a u. lines.Local a.0) l e in
    let n = name_sound ts b.0 b.2 in
    let d = end_sound b.0.1 b.1 b.3 in
    record { written = WrittenLine.Local b.0.0; tokens = cc; means = b.4 }

-- ---- properties

alone_sound : (ts : List Token) (x : ArrayName) → alone_at ts ≡ Some x → ts ≡ array x ∷ []
alone_sound ts x e =
    let b = bind2 (array_at ts) (λ a. end_at a.1) (λ a u. a.0) x e in
    let a = array_sound ts b.0 b.2 in
    let d = end_sound b.0.1 b.1 b.3 in
    let m = b.4 in
    cc

pair_sound : (ts : List Token) (x : ArrayName × ArrayName) → pair_at ts ≡ Some x → ts ≡ array x.0 ∷ array x.1 ∷ []
pair_sound ts x e =
    let b = bind2 (array_at ts) (λ f. alone_at f.1) (λ f g. (f.0, g)) x e in
    let f = array_sound ts b.0 b.2 in
    let g = alone_sound b.0.1 b.1 b.3 in
    f ∙ ap (λ (r : List Token). array b.0.0 ∷ r) g ∙ ap (λ (y : ArrayName × ArrayName). array y.0 ∷ array y.1 ∷ []) b.4

by_pair_sound : (ts : List Token) (x : ArrayName × ArrayName) → by_pair_at ts ≡ Some x → ts ≡ by_pair x.0 x.1
by_pair_sound ts x e =
    let b = bind3 (array_at ts) (λ f. by_at f.1) (λ f r. alone_at r) (λ f r p. (f.0, p)) x e in
    let f = array_sound ts b.0 b.3 in
    let r = by_sound b.0.1 b.1 b.4 in
    let p = alone_sound b.1 b.2 b.5 in
    f ∙ ap (λ (r : List Token). array b.0.0 ∷ r) (r ∙ ap (λ (r : List Token). tokens.Word keys.By ∷ r) p) ∙ ap (λ (y : ArrayName × ArrayName). by_pair y.0 y.1) b.6

abbrev IsProp : Keyword → List Token → NamedProp → Type 0
IsProp k ts p = IsRead (tokens.Word k ∷ ts) (lines.Prop p)

diagonal_sound : (ts : List Token) (p : NamedProp) → diagonal_at ts ≡ Some p → IsProp keys.Diagonal ts p
diagonal_sound ts p e =
    let b = bind3 (array_at ts) (λ d. of_at d.1) (λ d r. by_pair_at r) (λ d r q. props.Diagonal d.0 q.0 q.1) p e in
    let d = array_sound ts b.0 b.3 in
    let o = of_sound b.0.1 b.1 b.4 in
    let q = by_pair_sound b.1 b.2 b.5 in
    record { written = WrittenLine.Diagonal b.0.0 b.2.0 b.2.1; tokens = cc; means = ap (λ (q : NamedProp). lines.Prop q) b.6 }

abbrev bound_term : Bound → List Token
bound_term b = term (bound b)

abbrev bound_of : Bound → NamedTerm
bound_of b = meaning (bound b)

zero_bound : (ts : List Token) (x : NamedTerm × List Token) → zero_at ts ≡ Some x → Wrote bound_term bound_of (tokens.Zero ∷ ts) x
zero_bound (tokens.Minus ∷ ts) x e =
    let f : ℤ × List Token → Option (NamedTerm × List Token) = λ n. Some (constant n.0, n.1) in
    let b = bind_some (negated_at ts) f x e in
    let n = negated_sound ts b.0 b.1 in
    subst (Wrote bound_term bound_of (tokens.Zero ∷ tokens.Minus ∷ ts)) (some_is _ x b.2)
    (record { written = Bound.Negative n.written; tokens = ap (λ (l : List Token). tokens.Zero ∷ tokens.Minus ∷ l) n.tokens; means = ap constant n.means })
zero_bound ts x e = subst (Wrote bound_term bound_of (tokens.Zero ∷ ts)) (some_is _ x e) (record { written = Bound.Constant Numeral.Zero; tokens = refl; means = refl })

bound_sound : (ts : List Token) (x : NamedTerm × List Token) → bound_at ts ≡ Some x → Wrote bound_term bound_of ts x
bound_sound [] x e = absurd cc
bound_sound (tokens.Zero ∷ ts) x e = zero_bound ts x e
bound_sound (tokens.One ∷ ts) x e = subst (Wrote bound_term bound_of (tokens.One ∷ ts)) (some_is _ x e) (record { written = Bound.Constant Numeral.One; tokens = refl; means = refl })
bound_sound (tokens.Number n ∷ ts) x e = subst (Wrote bound_term bound_of (tokens.Number n ∷ ts)) (some_is _ x e) (record { written = Bound.Constant (Numeral.Number n); tokens = refl; means = refl })
bound_sound (tokens.N ∷ ts) x e =
    let s = shifted_sound atoms.N ts x e in
    record { written = Bound.Rows s.written; tokens = ap (λ (l : List Token). tokens.N ∷ l) s.tokens; means = s.means }
bound_sound (tokens.Nnz ∷ ts) x e =
    let s = shifted_sound atoms.Nnz ts x e in
    record { written = Bound.Stored s.written; tokens = ap (λ (l : List Token). tokens.Nnz ∷ l) s.tokens; means = s.means }
bound_sound (_ ∷ ts) x e = absurd cc

last_bound_sound : (ts : List Token) (x : NamedTerm) → last_bound_at ts ≡ Some x → Whole bound_term bound_of ts x
last_bound_sound ts x e =
    let b = bind2 (bound_at ts) (λ b. end_at b.1) (λ b u. b.0) x e in
    let w = bound_sound ts b.0 b.2 in
    record { written = w.written; tokens = w.tokens ∙ ap (λ (l : List Token). bound_term w.written ++ l) (end_sound b.0.1 b.1 b.3) ∙ append-nil (bound_term w.written); means = w.means ∙ b.4 }

range_sound : (ts : List Token) (p : NamedProp) → range_at ts ≡ Some p → IsProp keys.Range ts p
range_sound ts p e =
    let b = bind3 (array_at ts) (λ f. bound_at f.1) (λ f lo. last_bound_at lo.1) (λ f lo hi. props.Range f.0 lo.0 hi) p e in
    let f = array_sound ts b.0 b.3 in
    let lo = bound_sound b.0.1 b.1 b.4 in
    let hi = last_bound_sound b.1.1 b.2 b.5 in
    record {
      written = WrittenLine.Range b.0.0 lo.written hi.written;
      tokens = ap (λ (l : List Token). tokens.Word keys.Range ∷ l) (f ∙ ap (λ (l : List Token). array b.0.0 ∷ l) (lo.tokens ∙ ap (λ (l : List Token). bound_term lo.written ++ l) hi.tokens));
      means = rw (lo.means, hi.means) (ap (λ (q : NamedProp). lines.Prop q) b.6);
    }

-- ---- lines of the loop

loop_sound : (ts : List Token) (l : Line) → loop_at ts ≡ Some l → IsRead (tokens.Word keys.Loop ∷ ts) l
loop_sound ts l e =
    let b = bind2 (name_at ts) (λ a. end_at a.1) (λ a u. lines.Loop a.0) l e in
    let n = name_sound ts b.0 b.2 in
    let d = end_sound b.0.1 b.1 b.3 in
    record { written = WrittenLine.Loop b.0.0; tokens = cc; means = b.4 }

last_term_sound : (ts : List Token) (x : NamedTerm) → last_term_at ts ≡ Some x → Whole term meaning ts x
last_term_sound ts x e =
    let b = bind2 (free_term_at ts) (λ t. end_at t.1) (λ t u. t.0) x e in
    let w = term_sound (length ts) ts b.0 b.2 in
    record { written = w.written; tokens = w.tokens ∙ ap (λ (l : List Token). term w.written ++ l) (end_sound b.0.1 b.1 b.3) ∙ append-nil (term w.written); means = w.means ∙ b.4 }

for_sound : (ts : List Token) (l : Line) → for_at ts ≡ Some l → IsRead (tokens.Word keys.For ∷ ts) l
for_sound ts l e =
    let b = bind3 (name_at ts) (λ a. in_at a.1) (λ a r. terms_at r) (λ a r p. lines.For a.0 p.0 p.1) l e in
    let p = bind3 (free_term_at b.1) (λ lo. to_at lo.1) (λ lo r. last_term_at r) (λ lo r hi. (lo.0, hi)) b.2 b.5 in
    let n = name_sound ts b.0 b.3 in
    let i = in_sound b.0.1 b.1 b.4 in
    let lo = term_sound (length b.1) b.1 p.0 p.3 in
    let t = to_sound p.0.1 p.1 p.4 in
    let hi = last_term_sound p.1 p.2 p.5 in
    record {
      written = WrittenLine.For b.0.0 lo.written hi.written;
      tokens = ap (λ (l : List Token). tokens.Word keys.For ∷ l) (n ∙ ap (λ (l : List Token). tokens.Name b.0.0 ∷ l) (i ∙ ap (λ (l : List Token). tokens.Word keys.In ∷ l) (lo.tokens ∙ ap (λ (l : List Token). term lo.written ++ l) (t ∙ ap (λ (l : List Token). tokens.To ∷ l) hi.tokens))));
      means = rw (lo.means, hi.means) (ap (λ (y : NamedTerm × NamedTerm). lines.For b.0.0 y.0 y.1) p.6 ∙ b.6);
    }

when_sound : (ts : List Token) (l : Line) → when_at ts ≡ Some l → IsRead (tokens.Word keys.When ∷ ts) l
when_sound ts l e =
    let b = bind3 (free_term_at ts) (λ l. rel_at l.1) (λ l r. last_term_at r.1) (λ l r t. lines.When r.0 l.0 t) l e in
    let left = term_sound (length ts) ts b.0 b.3 in
    let r = rel_sound b.0.1 b.1 b.4 in
    let right = last_term_sound b.1.1 b.2 b.5 in
    record {
      written = WrittenLine.When left.written b.1.0 right.written;
      tokens = ap (λ (l : List Token). tokens.Word keys.When ∷ l) (left.tokens ∙ ap (λ (l : List Token). term left.written ++ l) (r ∙ ap (λ (l : List Token). rel b.1.0 ∷ l) right.tokens));
      means = rw (left.means, right.means) b.6;
    }

kept_sound : (ts : List Token) (x : NamedExpr) → kept_at ts ≡ Some x → Whole (λ w. tokens.Assign ∷ sum w) sum_of ts x
kept_sound ts x e =
    let a = bind_some (assign_at ts) (λ s. value_at s) x e in
    let v = whole_sound (3 * length a.0) a.0 x a.2 in
    record { written = v.written; tokens = assign_sound ts a.0 a.1 ∙ ap (λ (l : List Token). tokens.Assign ∷ l) v.tokens; means = v.means }

assigned_sound : (ts : List Token) (x : NamedExpr) → assigned_at ts ≡ Some x → Whole (λ w. tokens.Close ∷ tokens.Assign ∷ sum w) sum_of ts x
assigned_sound ts x e =
    let c = bind_some (close_at ts) (λ r. kept_at r) x e in
    let v = kept_sound c.0 x c.2 in
    record { written = v.written; tokens = close_sound ts c.0 c.1 ∙ ap (λ (l : List Token). tokens.Close ∷ l) v.tokens; means = v.means }

put_sound : (ts : List Token) (a : ArrayName × List Token) (l : Line) → ts ≡ array a.0 ∷ tokens.Open ∷ a.1 → put_at a.0 a.1 ≡ Some l → IsRead (tokens.Word keys.Set ∷ ts) l
put_sound ts a l is e =
    let b = bind2 (free_term_at a.1) (λ t. assigned_at t.1) (λ t v. lines.Set a.0 t.0 v) l e in
    let t = term_sound (length a.1) a.1 b.0 b.2 in
    let v = assigned_sound b.0.1 b.1 b.3 in
    record {
      written = WrittenLine.Set a.0 t.written v.written;
      tokens = ap (λ (l : List Token). tokens.Word keys.Set ∷ l) (is ∙ ap (λ (l : List Token). array a.0 ∷ tokens.Open ∷ l) (t.tokens ∙ ap (λ (l : List Token). term t.written ++ l) v.tokens));
      means = rw (t.means, v.means) b.4;
    }

keep_sound : (ts : List Token) (l : Line) → keep_at ts ≡ Some l → IsRead (tokens.Word keys.Set ∷ ts) l
keep_sound ts l e =
    let b = bind2 (name_at ts) (λ a. kept_at a.1) (λ a v. lines.Keep a.0 v) l e in
    let n = name_sound ts b.0 b.2 in
    let v = kept_sound b.0.1 b.1 b.3 in
    record {
      written = WrittenLine.Keep b.0.0 v.written;
      tokens = ap (λ (l : List Token). tokens.Word keys.Set ∷ l) (n ∙ ap (λ (l : List Token). tokens.Name b.0.0 ∷ l) v.tokens);
      means = rw v.means b.4;
    }

set_sound : (ts : List Token) (l : Line) → set_at ts ≡ Some l → IsRead (tokens.Word keys.Set ∷ ts) l
set_sound ts l e =
    let P : Option (ArrayName × List Token) → Type 0 = λ o. entry_at ts ≡ o → or_else o (λ a. put_at a.0 a.1) (keep_at ts) ≡ Some l → IsRead (tokens.Word keys.Set ∷ ts) l in
    let each : (o : Option (ArrayName × List Token)) → P o = λ o. elim o as P [
      | None ↦ (λ d f. keep_sound ts l f)
      | Some a ↦ (λ d f. put_sound ts a l (entry_sound ts a d) f)
    ] in
    each (entry_at ts) refl e

last_sound : (ts : List Token) (l : Line) → last_at ts ≡ Some l → IsRead (tokens.Word keys.End ∷ ts) l
last_sound ts l e =
    let b = bind_some (end_at ts) (λ u. Some lines.End) l e in
    record { written = WrittenLine.End; tokens = ap (λ (l : List Token). tokens.Word keys.End ∷ l) (end_sound ts b.0 b.1); means = some_is _ _ b.2 }

-- ---- by the first word

one_prop : (k : Keyword) (make : ArrayName → NamedProp) (write : ArrayName → WrittenLine) (ts : List Token) (p : NamedProp)
    → ((x : ArrayName) → line (write x) ≡ tokens.Word k ∷ array x ∷ []) → ((x : ArrayName) → line_of (write x) ≡ lines.Prop (make x)) → (alone_at ts >>= λ x. Some (make x)) ≡ Some p → IsProp k ts p
one_prop k make write ts p writes means e =
    let b = bind_some (alone_at ts) (λ x. Some (make x)) p e in
    record { written = write b.0; tokens = ap (λ (l : List Token). tokens.Word k ∷ l) (alone_sound ts b.0 b.1) ∙ sym (writes b.0); means = means b.0 ∙ ap (λ (q : NamedProp). lines.Prop q) (some_is _ _ b.2) }

two_prop : (k : Keyword) (make : ArrayName → ArrayName → NamedProp) (write : ArrayName → ArrayName → WrittenLine) (ts : List Token) (p : NamedProp)
    → ((x y : ArrayName) → line (write x y) ≡ tokens.Word k ∷ by_pair x y) → ((x y : ArrayName) → line_of (write x y) ≡ lines.Prop (make x y)) → (by_pair_at ts >>= λ x. Some (make x.0 x.1)) ≡ Some p → IsProp k ts p
two_prop k make write ts p writes means e =
    let b = bind_some (by_pair_at ts) (λ x. Some (make x.0 x.1)) p e in
    record { written = write b.0.0 b.0.1; tokens = ap (λ (l : List Token). tokens.Word k ∷ l) (by_pair_sound ts b.0 b.1) ∙ sym (writes b.0.0 b.0.1); means = means b.0.0 b.0.1 ∙ ap (λ (q : NamedProp). lines.Prop q) (some_is _ _ b.2) }

before_sound : (ts : List Token) (p : NamedProp) → (pair_at ts >>= λ x. Some (props.Before x.0 x.1)) ≡ Some p → IsProp keys.Before ts p
before_sound ts p e =
    let b = bind_some (pair_at ts) (λ x. Some (props.Before x.0 x.1)) p e in
    record { written = WrittenLine.Before b.0.0 b.0.1; tokens = ap (λ (l : List Token). tokens.Word keys.Before ∷ l) (pair_sound ts b.0 b.1); means = ap (λ (q : NamedProp). lines.Prop q) (some_is _ _ b.2) }

prop_sound : (k : Keyword) (ts : List Token) (p : NamedProp) → prop_at k ts ≡ Some p → IsProp k ts p
prop_sound keys.Range ts p e = range_sound ts p e
prop_sound keys.Rising ts p e = one_prop keys.Rising props.Rising WrittenLine.Rising ts p (λ x. refl) (λ x. refl) e
prop_sound keys.Strict ts p e = one_prop keys.Strict props.Strict WrittenLine.Strict ts p (λ x. refl) (λ x. refl) e
prop_sound keys.Injective ts p e = one_prop keys.Injective props.Injective WrittenLine.Injective ts p (λ x. refl) (λ x. refl) e
prop_sound keys.Sorted ts p e = two_prop keys.Sorted props.Sorted WrittenLine.Sorted ts p (λ x y. refl) (λ x y. refl) e
prop_sound keys.Below ts p e = two_prop keys.Below props.Below WrittenLine.Under ts p (λ x y. refl) (λ x y. refl) e
prop_sound keys.Upto ts p e = two_prop keys.Upto props.Upto WrittenLine.Upto ts p (λ x y. refl) (λ x y. refl) e
prop_sound keys.Diagonal ts p e = diagonal_sound ts p e
prop_sound keys.Before ts p e = before_sound ts p e
prop_sound _ ts p e = absurd cc

as_prop : (k : Keyword) (ts : List Token) (l : Line) → (prop_at k ts >>= λ p. Some (lines.Prop p)) ≡ Some l → IsRead (tokens.Word k ∷ ts) l
as_prop k ts l e =
    let b = bind_some (prop_at k ts) (λ p. Some (lines.Prop p)) l e in
    subst (IsRead (tokens.Word k ∷ ts)) (some_is _ _ b.2) (prop_sound k ts b.0 b.1)

form_line_sound : (k : Keyword) (ts : List Token) (l : Line) → form_line_at k ts ≡ Some l → IsRead (tokens.Word k ∷ ts) l
form_line_sound keys.Matrix ts l e = matrix_sound ts l e
form_line_sound keys.Index ts l e = index_sound ts l e
form_line_sound keys.Vector ts l e = vector_sound ts l e
form_line_sound keys.Local ts l e = local_sound ts l e
form_line_sound keys.Loop ts l e = loop_sound ts l e
form_line_sound keys.For ts l e = for_sound ts l e
form_line_sound keys.When ts l e = when_sound ts l e
form_line_sound keys.Set ts l e = set_sound ts l e
form_line_sound keys.End ts l e = last_sound ts l e
form_line_sound k ts l e = as_prop k ts l e

pub line_sound : (ts : List Token) (l : Line) → line_at ts ≡ Some l → IsLine ts l
line_sound [] l e = absurd cc
line_sound (tokens.Word k ∷ ts) l e = let h = form_line_sound k ts l e in record { written = h.written; tokens = h.tokens; means = h.means }
line_sound (_ ∷ ts) l e = absurd cc

-- ---- a line of the grammar is read

size_again : (s : Size) (rest : List Token) → longer_at rest ≡ Some (sizes.N, rest) → size_at (size s ++ rest) ≡ Some (s, rest)
size_again sizes.N rest e = e
size_again sizes.NPlusOne rest e = refl
size_again sizes.Nnz rest e = refl

form_again : (f : Form) (rest : List Token) → form_at (form f ∷ rest) ≡ Some (f, rest)
form_again Csr rest = refl
form_again Csc rest = refl

source_again : (c : Source) (rest : List Token) → source_at (source c ∷ rest) ≡ Some (c, rest)
source_again File rest = refl
source_again Zeros rest = refl

source_no_plus : (c : Source) (rest : List Token) → longer_at (source c ∷ rest) ≡ Some (sizes.N, source c ∷ rest)
source_no_plus File rest = refl
source_no_plus Zeros rest = refl

rel_again : (r : Rel) (rest : List Token) → rel_at (rel r ∷ rest) ≡ Some (r, rest)
rel_again rels.Equal rest = refl
rel_again rels.Less rest = refl
rel_again rels.LessEqual rest = refl

rel_ends : (r : Rel) (rest : List Token) → ends_term (rel r ∷ rest) ≡ true
rel_ends rels.Equal rest = refl
rel_ends rels.Less rest = refl
rel_ends rels.LessEqual rest = refl

bound_ends : (b : Bound) (rest : List Token) → ends_term (bound_term b ++ rest) ≡ true
bound_ends (Bound.Constant Numeral.Zero) rest = refl
bound_ends (Bound.Constant Numeral.One) rest = refl
bound_ends (Bound.Constant (Numeral.Number n)) rest = refl
bound_ends (Bound.Negative n) rest = refl
bound_ends (Bound.Rows s) rest = refl
bound_ends (Bound.Stored s) rest = refl

bound_again : (b : Bound) (rest : List Token) → ends_term rest ≡ true → bound_at (bound_term b ++ rest) ≡ Some (bound_of b, rest)
bound_again (Bound.Constant Numeral.Zero) rest e = zero_again rest e
bound_again (Bound.Constant Numeral.One) rest e = refl
bound_again (Bound.Constant (Numeral.Number n)) rest e = refl
bound_again (Bound.Negative n) rest e = rw (negated_again n rest) refl
bound_again (Bound.Rows s) rest e = shifted_again atoms.N s rest e
bound_again (Bound.Stored s) rest e = shifted_again atoms.Nnz s rest e

free_term_again : (w : Written) (rest : List Token) → ends_term rest ≡ true → free_term_at (term w ++ rest) ≡ Some (meaning w, rest)
free_term_again w rest e = let h = term_some w in term_again w (length (term w ++ rest)) rest (omega (arith, h, length-append (term w) rest)) e

last_term_again : (w : Written) → last_term_at (term w) ≡ Some (meaning w)
last_term_again w = ap last_term_at (sym (append-nil (term w))) ∙ rw (free_term_again w [] refl) refl

value_again : (w : Sum) → value_at (sum w) ≡ Some (sum_of w)
value_again w = whole_again w (3 * length (sum w)) (omega arith)

range_again : (f : ArrayName) (lo hi : Bound) → range_at (array f ∷ (bound_term lo ++ bound_term hi)) ≡ Some (props.Range f (bound_of lo) (bound_of hi))
range_again f lo hi =
    let a = array_again f (bound_term lo ++ bound_term hi) in
    let h : ends_term (bound_term hi) ≡ true = subst (λ (l : List Token). ends_term l ≡ true) (append-nil (bound_term hi)) (bound_ends hi []) in
    let b = bound_again lo (bound_term hi) h in
    let c : last_bound_at (bound_term hi) ≡ Some (bound_of hi) = ap last_bound_at (sym (append-nil (bound_term hi))) ∙ rw (bound_again hi [] refl) refl in
    rw (a, b, c) refl

pub line_again : (w : WrittenLine) → line_at (line w) ≡ Some (line_of w)
line_again (WrittenLine.Matrix name f) = rw (form_again f []) refl
line_again (WrittenLine.Index name s) =
    let h : size_at (size s) ≡ Some (s, []) = ap size_at (sym (append-nil (size s))) ∙ size_again s [] refl in
    rw h refl
line_again (WrittenLine.Vector name s c) = rw (size_again s (source c ∷ []) (source_no_plus c []), source_again c []) refl
line_again (WrittenLine.Local name) = refl
line_again (WrittenLine.Range f lo hi) = rw (range_again f lo hi) refl
line_again (WrittenLine.Rising p) = rw (array_again p []) refl
line_again (WrittenLine.Strict p) = rw (array_again p []) refl
line_again (WrittenLine.Injective f) = rw (array_again f []) refl
line_again (WrittenLine.Sorted f p) = rw (array_again f (tokens.Word keys.By ∷ array p ∷ []), array_again p []) refl
line_again (WrittenLine.Under f p) = rw (array_again f (tokens.Word keys.By ∷ array p ∷ []), array_again p []) refl
line_again (WrittenLine.Upto f p) = rw (array_again f (tokens.Word keys.By ∷ array p ∷ []), array_again p []) refl
line_again (WrittenLine.Diagonal d f p) = rw (array_again d (tokens.Word keys.Of ∷ by_pair f p), array_again f (tokens.Word keys.By ∷ array p ∷ []), array_again p []) refl
line_again (WrittenLine.Before f g) = rw (array_again f (array g ∷ []), array_again g []) refl
line_again (WrittenLine.Loop name) = refl
line_again (WrittenLine.For name lo hi) = rw (free_term_again lo (tokens.To ∷ term hi) refl, last_term_again hi) refl
line_again (WrittenLine.When left r right) = rw (free_term_again left (rel r ∷ term right) (rel_ends r (term right)), rel_again r (term right), last_term_again right) refl
line_again (WrittenLine.Set x at value) = rw (array_again x (tokens.Open ∷ (term at ++ tokens.Close ∷ tokens.Assign ∷ sum value)), free_term_again at (tokens.Close ∷ tokens.Assign ∷ sum value) refl, value_again value) refl
line_again (WrittenLine.Keep name value) = rw (value_again value) refl
line_again WrittenLine.End = refl
