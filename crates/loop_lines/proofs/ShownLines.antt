-- The text of a line is a written line of that meaning.
use Rattle.std.proofs.Common.{◌≡◌, ℕ, true, ◌&&◌, List, [], ◌∷◌, ◌++◌, refl, ap, subst, ◌∙◌, append_assoc, arith}
use Rattle.std.specs.Prelude.{codes}
use Rattle.std.proofs.lemmas.List.{append-nil}
use Rattle.loop_core.specs.declared.decl.Form.{Form}
use Rattle.loop_core.specs.declared.decl.Form.TheVariants.{Csr, Csc}
use Rattle.loop_core.specs.declared.decl.Size.{Size}
use Rattle.loop_core.specs.declared.decl.Size.TheVariants as sizes
use Rattle.loop_core.specs.declared.decl.Source.{Source}
use Rattle.loop_core.specs.declared.decl.Source.TheVariants.{File, Zeros}
use Rattle.loop_core.specs.declared.nest.Rel.{Rel}
use Rattle.loop_core.specs.declared.nest.Rel.TheVariants as rels
use Rattle.loop_core.specs.Names.{is_name}
use Rattle.loop_lines.specs.declared.token.Keyword.{Keyword}
use Rattle.loop_lines.specs.declared.token.Keyword.TheVariants as keys
use Rattle.loop_lines.specs.declared.token.Token.{Token}
use Rattle.loop_lines.specs.declared.token.Token.TheVariants as tokens
use Rattle.loop_lines.specs.declared.tree.ArrayName.{ArrayName}
use Rattle.loop_lines.specs.declared.tree.NamedTerm.{NamedTerm}
use Rattle.loop_lines.specs.declared.tree.NamedExpr.{NamedExpr}
use Rattle.loop_lines.specs.declared.line.NamedProp.{NamedProp}
use Rattle.loop_lines.specs.declared.line.NamedProp.TheVariants as props
use Rattle.loop_lines.specs.declared.line.Line.{Line}
use Rattle.loop_lines.specs.declared.line.Line.TheVariants as lines
use Rattle.loop_lines.specs.Grammar.{array, term, meaning}
use Rattle.loop_lines.specs.Exprs.{sum, sum_of}
use Rattle.loop_lines.specs.Lines.{WrittenLine, bound, form, size, source, rel, by_pair, line, line_of}
use Rattle.loop_lines.specs.Shown.{shown_array, shown_entry, shown_term, shown_form, shown_size, shown_source, shown_rel, shown_prop, shown_line}
use Rattle.loop_lines.specs.Showable.{is_array, is_showable_term, is_showable_bound, is_showable_value, is_showable_prop, is_showable, IsShowable}
use Rattle.loop_lines.proofs.Bools.{and_parts}
use Rattle.loop_lines.proofs.ShownTexts.{behind_none, Shows, Closed, Sign, closed_after, ◌▸◌, ◌◂◌, ◌◇◌, word}
use Rattle.loop_lines.proofs.ShownWords.{name_shows, array_shows, plus_sign}
use Rattle.loop_lines.proofs.ShownTerms.{entry_shows, term_of, bound_of}
use Rattle.loop_lines.proofs.ShownValues.{value_of}

-- a line that is written so
pub record LineOf (text : List ℕ) (l : Line) : Type 0 where
  pub written : WrittenLine
  pub means : line_of written ≡ l
  pub shows : Shows text (line written)

-- ---- words between

blank : Sign (codes " ") []
blank = record { reads = λ s. behind_none _; begins = λ s. refl }

by_sign : Sign (codes " by ") (tokens.Word keys.By ∷ [])
by_sign = record { reads = λ s. refl; begins = λ s. refl }

of_sign : Sign (codes " of ") (tokens.Word keys.Of ∷ [])
of_sign = record { reads = λ s. refl; begins = λ s. refl }

in_sign : Sign (codes " in ") (tokens.Word keys.In ∷ [])
in_sign = record { reads = λ s. refl; begins = λ s. refl }

to_sign : Sign (codes "..") (tokens.To ∷ [])
to_sign = record { reads = λ s. refl; begins = λ s. refl }

assign_sign : Sign (codes " = ") (tokens.Assign ∷ [])
assign_sign = record { reads = λ s. refl; begins = λ s. refl }

rel_sign : (r : Rel) → Sign (shown_rel r) (rel r ∷ [])
rel_sign rels.Equal = record { reads = λ s. refl; begins = λ s. refl }
rel_sign rels.Less = record { reads = λ s. refl; begins = λ s. refl }
rel_sign rels.LessEqual = record { reads = λ s. refl; begins = λ s. refl }

size_shows : (s : Size) → Shows (shown_size s) (size s)
size_shows sizes.N = word (codes "n") tokens.N refl (omega arith) refl
size_shows sizes.NPlusOne = (word (codes "n") tokens.N refl (omega arith) refl ◂ plus_sign) ▸ word (codes "1") tokens.One refl (omega arith) refl
size_shows sizes.Nnz = word (codes "nnz") tokens.Nnz refl (omega arith) refl

source_shows : (c : Source) → Shows (shown_source c) (source c ∷ [])
source_shows File = word (codes "file") (tokens.Word keys.File) refl (omega arith) refl
source_shows Zeros = word (codes "zero") (tokens.Word keys.Zero) refl (omega arith) refl

-- a word after a blank
behind_blank : (a w : List ℕ) (xs : List Token) (t : Token) → Shows a xs → Shows w (t ∷ []) → Shows (a ++ (codes " " ++ w)) (xs ++ t ∷ [])
behind_blank a w xs t h k =
    let all : Shows ((a ++ codes " ") ++ w) ((xs ++ []) ++ t ∷ []) = (h ◂ blank) ▸ k in
    subst (λ (x : List ℕ). Shows x (xs ++ t ∷ [])) (append_assoc a (codes " ") w)
    (subst (λ (ts : List Token). Shows ((a ++ codes " ") ++ w) (ts ++ t ∷ [])) (append-nil xs) all)

form_shows : (a : List ℕ) (xs : List Token) (f : Form) → Shows a xs → Shows (a ++ shown_form f) (xs ++ form f ∷ [])
form_shows a xs Csr h = behind_blank a (codes "csr") xs (tokens.Word keys.Csr) h (word (codes "csr") (tokens.Word keys.Csr) refl (omega arith) refl)
form_shows a xs Csc h = behind_blank a (codes "csc") xs (tokens.Word keys.Csc) h (word (codes "csc") (tokens.Word keys.Csc) refl (omega arith) refl)

-- ---- declarations

matrix_word : Closed (codes "matrix ") (tokens.Word keys.Matrix ∷ [])
matrix_word = record { reads = λ s. refl }

index_word : Closed (codes "index ") (tokens.Word keys.Index ∷ [])
index_word = record { reads = λ s. refl }

vector_word : Closed (codes "vector ") (tokens.Word keys.Vector ∷ [])
vector_word = record { reads = λ s. refl }

matrix_of : (name : List ℕ) (f : Form) → is_name name ≡ true → LineOf (shown_line (lines.Matrix name f)) (lines.Matrix name f)
matrix_of name f e = record {
  written = WrittenLine.Matrix name f;
  means = refl;
  shows = form_shows (codes "matrix " ++ name) (tokens.Word keys.Matrix ∷ tokens.Name name ∷ []) f (matrix_word ▸ name_shows name e);
}

index_of : (name : List ℕ) (s : Size) → is_name name ≡ true → LineOf (shown_line (lines.Index name s)) (lines.Index name s)
index_of name s e = record {
  written = WrittenLine.Index name s;
  means = refl;
  shows = ((index_word ▸ name_shows name e) ◂ blank) ▸ size_shows s;
}

vector_of : (name : List ℕ) (s : Size) (c : Source) → is_name name ≡ true → LineOf (shown_line (lines.Vector name s c)) (lines.Vector name s c)
vector_of name s c e =
    let front : Shows (codes "vector " ++ name ++ codes " " ++ shown_size s) (tokens.Word keys.Vector ∷ tokens.Name name ∷ size s) = ((vector_word ▸ name_shows name e) ◂ blank) ▸ size_shows s in
    let all : Shows (shown_line (lines.Vector name s c)) (tokens.Word keys.Vector ∷ tokens.Name name ∷ ((size s ++ []) ++ source c ∷ [])) = (front ◂ blank) ▸ source_shows c in
    record {
      written = WrittenLine.Vector name s c;
      means = refl;
      shows = subst (λ (ts : List Token). Shows (shown_line (lines.Vector name s c)) (tokens.Word keys.Vector ∷ tokens.Name name ∷ (ts ++ source c ∷ []))) (append-nil (size s)) all;
    }

local_word : Closed (codes "local ") (tokens.Word keys.Local ∷ [])
local_word = record { reads = λ s. refl }

-- ---- properties

range_word : Closed (codes "range ") (tokens.Word keys.Range ∷ [])
range_word = record { reads = λ s. refl }

rising_word : Closed (codes "rising ") (tokens.Word keys.Rising ∷ [])
rising_word = record { reads = λ s. refl }

strict_word : Closed (codes "strict ") (tokens.Word keys.Strict ∷ [])
strict_word = record { reads = λ s. refl }

injective_word : Closed (codes "injective ") (tokens.Word keys.Injective ∷ [])
injective_word = record { reads = λ s. refl }

sorted_word : Closed (codes "sorted ") (tokens.Word keys.Sorted ∷ [])
sorted_word = record { reads = λ s. refl }

below_word : Closed (codes "below ") (tokens.Word keys.Below ∷ [])
below_word = record { reads = λ s. refl }

upto_word : Closed (codes "upto ") (tokens.Word keys.Upto ∷ [])
upto_word = record { reads = λ s. refl }

diagonal_word : Closed (codes "diagonal ") (tokens.Word keys.Diagonal ∷ [])
diagonal_word = record { reads = λ s. refl }

before_word : Closed (codes "before ") (tokens.Word keys.Before ∷ [])
before_word = record { reads = λ s. refl }

range_of : (f : ArrayName) (lo hi : NamedTerm) → is_showable_prop (props.Range f lo hi) ≡ true → LineOf (shown_prop (props.Range f lo hi)) (lines.Prop (props.Range f lo hi))
range_of f lo hi e =
    let last = and_parts (is_array f && is_showable_bound lo) (is_showable_bound hi) e in
    let both = and_parts (is_array f) (is_showable_bound lo) last.0 in
    let b = bound_of lo both.1 in
    let c = bound_of hi last.1 in
    let front : Shows (codes "range " ++ shown_array f ++ codes " " ++ shown_term lo) (tokens.Word keys.Range ∷ array f ∷ term (bound b.written)) = ((range_word ▸ array_shows f both.0) ◂ blank) ▸ b.shows in
    let all : Shows (shown_prop (props.Range f lo hi)) (tokens.Word keys.Range ∷ array f ∷ ((term (bound b.written) ++ []) ++ term (bound c.written))) = (front ◂ blank) ▸ c.shows in
    record {
      written = WrittenLine.Range f b.written c.written;
      means = ap (λ (t : NamedTerm). lines.Prop (props.Range f t (meaning (bound c.written)))) b.means ∙ ap (λ (t : NamedTerm). lines.Prop (props.Range f lo t)) c.means;
      shows = subst (λ (ts : List Token). Shows (shown_prop (props.Range f lo hi)) (tokens.Word keys.Range ∷ array f ∷ (ts ++ term (bound c.written)))) (append-nil (term (bound b.written))) all;
    }

-- an array, `by` and an array
pair_shows : (a : List ℕ) (k : Keyword) (f p : ArrayName) → Closed a (tokens.Word k ∷ []) → (is_array f && is_array p) ≡ true → Shows (a ++ shown_array f ++ codes " by " ++ shown_array p) (tokens.Word k ∷ by_pair f p)
pair_shows a k f p h e =
    let both = and_parts (is_array f) (is_array p) e in
    ((h ▸ array_shows f both.0) ◂ by_sign) ▸ array_shows p both.1

diagonal_of : (d f p : ArrayName) → is_showable_prop (props.Diagonal d f p) ≡ true → LineOf (shown_prop (props.Diagonal d f p)) (lines.Prop (props.Diagonal d f p))
diagonal_of d f p e =
    let last = and_parts (is_array d && is_array f) (is_array p) e in
    let both = and_parts (is_array d) (is_array f) last.0 in
    record {
      written = WrittenLine.Diagonal d f p;
      means = refl;
      shows = ((((diagonal_word ▸ array_shows d both.0) ◂ of_sign) ▸ array_shows f both.1) ◂ by_sign) ▸ array_shows p last.1;
    }

prop_of : (p : NamedProp) → is_showable_prop p ≡ true → LineOf (shown_prop p) (lines.Prop p)
prop_of (props.Range f lo hi) e = range_of f lo hi e
prop_of (props.Rising p) e = record { written = WrittenLine.Rising p; means = refl; shows = rising_word ▸ array_shows p e }
prop_of (props.Strict p) e = record { written = WrittenLine.Strict p; means = refl; shows = strict_word ▸ array_shows p e }
prop_of (props.Injective f) e = record { written = WrittenLine.Injective f; means = refl; shows = injective_word ▸ array_shows f e }
prop_of (props.Sorted f p) e = record { written = WrittenLine.Sorted f p; means = refl; shows = pair_shows (codes "sorted ") keys.Sorted f p sorted_word e }
prop_of (props.Below f p) e = record { written = WrittenLine.Under f p; means = refl; shows = pair_shows (codes "below ") keys.Below f p below_word e }
prop_of (props.Upto f p) e = record { written = WrittenLine.Upto f p; means = refl; shows = pair_shows (codes "upto ") keys.Upto f p upto_word e }
prop_of (props.Diagonal d f p) e = diagonal_of d f p e
prop_of (props.Before f g) e =
    let both = and_parts (is_array f) (is_array g) e in
    record { written = WrittenLine.Before f g; means = refl; shows = ((before_word ▸ array_shows f both.0) ◂ blank) ▸ array_shows g both.1 }

-- ---- lines of the loop

loop_word : Closed (codes "loop ") (tokens.Word keys.Loop ∷ [])
loop_word = record { reads = λ s. refl }

for_word : Closed (codes "for ") (tokens.Word keys.For ∷ [])
for_word = record { reads = λ s. refl }

when_word : Closed (codes "when ") (tokens.Word keys.When ∷ [])
when_word = record { reads = λ s. refl }

set_word : Closed (codes "set ") (tokens.Word keys.Set ∷ [])
set_word = record { reads = λ s. refl }

for_of : (name : List ℕ) (lo hi : NamedTerm) → is_showable (lines.For name lo hi) ≡ true → LineOf (shown_line (lines.For name lo hi)) (lines.For name lo hi)
for_of name lo hi e =
    let last = and_parts (is_name name && is_showable_term lo) (is_showable_term hi) e in
    let both = and_parts (is_name name) (is_showable_term lo) last.0 in
    let b = term_of lo both.1 in
    let c = term_of hi last.1 in
    let front : Shows (codes "for " ++ name ++ codes " in " ++ shown_term lo) (tokens.Word keys.For ∷ tokens.Name name ∷ tokens.Word keys.In ∷ term b.written) = ((for_word ▸ name_shows name both.0) ◂ in_sign) ▸ b.shows in
    let all : Shows (shown_line (lines.For name lo hi)) (tokens.Word keys.For ∷ tokens.Name name ∷ tokens.Word keys.In ∷ ((term b.written ++ tokens.To ∷ []) ++ term c.written)) = (front ◂ to_sign) ▸ c.shows in
    record {
      written = WrittenLine.For name b.written c.written;
      means = ap (λ (t : NamedTerm). lines.For name t (meaning c.written)) b.means ∙ ap (λ (t : NamedTerm). lines.For name lo t) c.means;
      shows = subst (λ (ts : List Token). Shows (shown_line (lines.For name lo hi)) (tokens.Word keys.For ∷ tokens.Name name ∷ tokens.Word keys.In ∷ ts)) (append_assoc (term b.written) (tokens.To ∷ []) (term c.written)) all;
    }

when_of : (r : Rel) (left right : NamedTerm) → is_showable (lines.When r left right) ≡ true → LineOf (shown_line (lines.When r left right)) (lines.When r left right)
when_of r left right e =
    let both = and_parts (is_showable_term left) (is_showable_term right) e in
    let b = term_of left both.0 in
    let c = term_of right both.1 in
    let all : Shows (shown_line (lines.When r left right)) (tokens.Word keys.When ∷ ((term b.written ++ rel r ∷ []) ++ term c.written)) = ((when_word ▸ b.shows) ◂ rel_sign r) ▸ c.shows in
    record {
      written = WrittenLine.When b.written r c.written;
      means = ap (λ (t : NamedTerm). lines.When r t (meaning c.written)) b.means ∙ ap (λ (t : NamedTerm). lines.When r left t) c.means;
      shows = subst (λ (ts : List Token). Shows (shown_line (lines.When r left right)) (tokens.Word keys.When ∷ ts)) (append_assoc (term b.written) (rel r ∷ []) (term c.written)) all;
    }

regrouped : (t v : List Token) → ((t ++ tokens.Close ∷ []) ++ tokens.Assign ∷ []) ++ v ≡ t ++ tokens.Close ∷ tokens.Assign ∷ v
regrouped t v = append_assoc (t ++ tokens.Close ∷ []) (tokens.Assign ∷ []) v ∙ append_assoc t (tokens.Close ∷ []) (tokens.Assign ∷ v)

set_of : (x : ArrayName) (at : NamedTerm) (value : NamedExpr) → is_showable (lines.Set x at value) ≡ true → LineOf (shown_line (lines.Set x at value)) (lines.Set x at value)
set_of x at value e =
    let last = and_parts (is_array x && is_showable_term at) (is_showable_value value) e in
    let both = and_parts (is_array x) (is_showable_term at) last.0 in
    let b = term_of at both.1 in
    let v = value_of value last.1 in
    let target : Closed (codes "set " ++ shown_entry x (shown_term at)) (tokens.Word keys.Set ∷ array x ∷ tokens.Open ∷ (term b.written ++ tokens.Close ∷ [])) =
    closed_after (codes "set ") (shown_entry x (shown_term at)) (tokens.Word keys.Set ∷ []) (array x ∷ tokens.Open ∷ (term b.written ++ tokens.Close ∷ [])) set_word (entry_shows x (shown_term at) (term b.written) both.0 b.shows) in
    let all : Shows (shown_line (lines.Set x at value)) (tokens.Word keys.Set ∷ array x ∷ tokens.Open ∷ (((term b.written ++ tokens.Close ∷ []) ++ tokens.Assign ∷ []) ++ sum v.added)) = (target ◇ assign_sign) ▸ v.added_shows in
    record {
      written = WrittenLine.Set x b.written v.added;
      means = ap (λ (t : NamedTerm). lines.Set x t (sum_of v.added)) b.means ∙ ap (λ (w : NamedExpr). lines.Set x at w) v.added_means;
      shows = subst (λ (ts : List Token). Shows (shown_line (lines.Set x at value)) (tokens.Word keys.Set ∷ array x ∷ tokens.Open ∷ ts)) (regrouped (term b.written) (sum v.added)) all;
    }

keep_of : (name : List ℕ) (value : NamedExpr) → is_showable (lines.Keep name value) ≡ true → LineOf (shown_line (lines.Keep name value)) (lines.Keep name value)
keep_of name value e =
    let both = and_parts (is_name name) (is_showable_value value) e in
    let v = value_of value both.1 in
    record {
      written = WrittenLine.Keep name v.added;
      means = ap (λ (w : NamedExpr). lines.Keep name w) v.added_means;
      shows = ((set_word ▸ name_shows name both.0) ◂ assign_sign) ▸ v.added_shows;
    }

pub written_of : (l : Line) → IsShowable l → LineOf (shown_line l) l
written_of (lines.Matrix name f) e = matrix_of name f e
written_of (lines.Index name s) e = index_of name s e
written_of (lines.Vector name s c) e = vector_of name s c e
written_of (lines.Local name) e = record { written = WrittenLine.Local name; means = refl; shows = local_word ▸ name_shows name e }
written_of (lines.Prop p) e = prop_of p e
written_of (lines.Loop name) e = record { written = WrittenLine.Loop name; means = refl; shows = loop_word ▸ name_shows name e }
written_of (lines.For name lo hi) e = for_of name lo hi e
written_of (lines.When r left right) e = when_of r left right e
written_of (lines.Set x at value) e = set_of x at value e
written_of (lines.Keep name value) e = keep_of name value e
written_of lines.End e = record { written = WrittenLine.End; means = refl; shows = word (codes "end") (tokens.Word keys.End) refl (omega arith) refl }
