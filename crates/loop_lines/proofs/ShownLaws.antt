-- The text of a line reads back as that line, and each line that is read can be shown.
use Rattle.std.proofs.Common.{◌≡◌, ℕ, suc, ◌-◌, ◌≤◌, Bool, true, false, if◌then◌else◌, ◌==◌, nat_lt, length, List, [], ◌∷◌, ◌++◌, Option, Some, None, refl, sym, ap, subst, ◌∙◌, arith}
use Rattle.std.specs.Prelude.{slice_index}
use Rattle.std.specs.List.{list_all}
use Rattle.std.proofs.lemmas.Bool.Decides.{nat_tests}
use Rattle.std.proofs.lemmas.List.Folds.{list_all-append}
use Rattle.text_base.specs.Lines.{lines, trimmed}
use Rattle.text_base.specs.Words.{is_blank, after_blanks}
use Rattle.loop_lines.specs.declared.token.Token.{Token}
use Rattle.loop_lines.specs.declared.line.NamedProp.TheVariants as props
use Rattle.loop_lines.specs.declared.line.Line.{Line}
use Rattle.loop_lines.specs.declared.line.Line.TheVariants as forms
use Rattle.loop_lines.specs.Reading.{◌>>=◌}
use Rattle.loop_lines.specs.Tokens.{line_tokens}
use Rattle.loop_lines.specs.Lines.{line, IsLine}
use Rattle.loop_lines.specs.LineReading.{line_at}
use Rattle.loop_lines.specs.Fitting.{is_comment, is_skipped, formed, text_line}
use Rattle.loop_lines.specs.Shown.{shown_line}
use Rattle.loop_lines.specs.Showable.{IsShowable}
use Rattle.loop_lines.specs.ReadBack.{is_inner, IsInner, AreBlanks, ReadsBack}
use Rattle.loop_lines.proofs.TokenLaws.{blanks_are}
use Rattle.loop_lines.proofs.LineLaws.{line_sound, line_again}
use Rattle.loop_lines.proofs.Bools.{and_parts, and_both}
use Rattle.loop_lines.proofs.ShownTexts.{shows_line}
use Rattle.loop_lines.proofs.ShownLines.{LineOf, written_of}
use Rattle.loop_lines.proofs.ShowableTokens.{line_showable, line_inner}
use Rattle.loop_lines.proofs.ShowableLines.{written_fits}

-- ---- blanks before a text

after_is : (blanks s : List ℕ) → AreBlanks blanks → after_blanks (blanks ++ s) ≡ after_blanks s
after_is [] s e = refl
after_is (b ∷ bs) s e =
    let both = and_parts (is_blank b) (list_all is_blank bs) e in
    rw (both.0) (after_is bs s both.1)

blank_inner : (b : ℕ) → is_blank b ≡ true → is_inner b ≡ true
blank_inner b e = grind (arith, nat_tests)

blanks_inner : (blanks : List ℕ) → AreBlanks blanks → IsInner blanks
blanks_inner [] e = refl
blanks_inner (b ∷ bs) e =
    let both = and_parts (is_blank b) (list_all is_blank bs) e in
    and_both (is_inner b) (list_all is_inner bs) (blank_inner b both.0) (blanks_inner bs both.1)

tokens_behind : (blanks s : List ℕ) → AreBlanks blanks → line_tokens (blanks ++ s) ≡ line_tokens s
tokens_behind blanks s e = sym (blanks_are (blanks ++ s)) ∙ ap line_tokens (after_is blanks s e) ∙ blanks_are s

-- ---- a text that ends no line

last_inner : (b : ℕ) (bs : List ℕ) → IsInner (b ∷ bs) → is_inner (slice_index (b ∷ bs) (length bs)) ≡ true
last_inner b [] e = (and_parts (is_inner b) true e).0
last_inner b (c ∷ cs) e = last_inner c cs (and_parts (is_inner b) (list_all is_inner (c ∷ cs)) e).1

no_return : (b : ℕ) → is_inner b ≡ true → (b == 13) ≡ false
no_return b e = grind (arith, nat_tests)

trimmed_is : (s : List ℕ) → IsInner s → trimmed s ≡ s
trimmed_is [] e = refl
trimmed_is (b ∷ bs) e =
    let place : suc (length bs) - 1 ≡ length bs = omega arith in
    let no = no_return (slice_index (b ∷ bs) (length bs)) (last_inner b bs e) in
    rw (place, no) refl

-- it is one line of a text
pub one_line : (s rest : List ℕ) → IsInner s → lines (s ++ 10 ∷ rest) ≡ s ∷ lines rest
one_line [] rest e = refl
one_line (b ∷ bs) rest e =
    let both = and_parts (is_inner b) (list_all is_inner bs) e in
    let no : (b == 10) ≡ false = grind (arith, nat_tests) in
    rw (no, one_line bs rest both.1) refl

-- ---- lines are no comments

begins : (l : Line) → is_comment (after_blanks (shown_line l)) ≡ false
begins (forms.Matrix name form) = refl
begins (forms.Index name size) = refl
begins (forms.Vector name size source) = refl
begins (forms.Local name) = refl
begins (forms.Prop (props.Range f lo hi)) = refl
begins (forms.Prop (props.Rising p)) = refl
begins (forms.Prop (props.Strict p)) = refl
begins (forms.Prop (props.Injective f)) = refl
begins (forms.Prop (props.Sorted f p)) = refl
begins (forms.Prop (props.Below f p)) = refl
begins (forms.Prop (props.Upto f p)) = refl
begins (forms.Prop (props.Diagonal d f p)) = refl
begins (forms.Prop (props.Before f g)) = refl
begins (forms.Loop name) = refl
begins (forms.For name lo hi) = refl
begins (forms.When rel left right) = refl
begins (forms.Set array at value) = refl
begins (forms.Keep name value) = refl
begins forms.End = refl

-- ---- the text of a line reads back

tokens_are : (l : Line) (h : LineOf (shown_line l) l) → line_tokens (shown_line l) ≡ Some (line h.written)
tokens_are l h = shows_line (shown_line l) (line h.written) h.shows

formed_is : (blanks : List ℕ) (l : Line) (h : LineOf (shown_line l) l) → AreBlanks blanks → formed (blanks ++ shown_line l) ≡ Some (Some l)
formed_is blanks l h e =
    let found : line_tokens (blanks ++ shown_line l) ≡ Some (line h.written) = tokens_behind blanks (shown_line l) e ∙ tokens_are l h in
    rw (found, line_again h.written, h.means) refl

inner_is : (blanks : List ℕ) (l : Line) → IsShowable l → AreBlanks blanks → IsInner (blanks ++ shown_line l)
inner_is blanks l s e =
    let h = written_of l s in
    list_all-append is_inner blanks (shown_line l) ∙ and_both (list_all is_inner blanks) (list_all is_inner (shown_line l)) (blanks_inner blanks e) (line_inner (shown_line l) (line h.written) (tokens_are l h))

text_is : (s : List ℕ) (l : Line) → IsInner s → length s ≤ 200 → is_skipped s ≡ false → formed s ≡ Some (Some l) → text_line s ≡ Some (Some l)
text_is s l inner few skipped is =
    let short : nat_lt 200 (length s) ≡ false = grind (arith, nat_tests) in
    rw (trimmed_is s inner, short, skipped, is) refl

pub reads_back : (l : Line) → IsShowable l → ReadsBack l
reads_back l s = record {
  inner = λ blanks e. inner_is blanks l s e;
  same = λ blanks e few. text_is (blanks ++ shown_line l) l (inner_is blanks l s e) few (ap is_comment (after_is blanks (shown_line l) e) ∙ begins l) (formed_is blanks l (written_of l s) e);
}

-- ---- each line that is read can be shown

abbrev IfLine : Option (Option Line) → Type 0
IfLine None = Unit {0}
IfLine (Some None) = Unit {0}
IfLine (Some (Some l)) = IsShowable l

pick : (c : Bool) (a b : Option (Option Line)) → IfLine a → IfLine b → IfLine (if c then a else b)
pick true a b x y = x
pick false a b x y = y

from_line : (s : List ℕ) (ts : List Token) → line_tokens s ≡ Some ts → (o : Option Line) → line_at ts ≡ o → IfLine (o >>= λ l. Some (Some l))
from_line s ts e None f = tt
from_line s ts e (Some l) f =
    let is : IsLine ts l = line_sound ts l f in
    subst IsShowable is.means (written_fits is.written (line_showable s (line is.written) (e ∙ ap (λ (x : List Token). Some x) is.tokens)))

from_tokens : (s : List ℕ) (o : Option (List Token)) → line_tokens s ≡ o → IfLine (o >>= λ ts. line_at ts >>= λ l. Some (Some l))
from_tokens s None e = tt
from_tokens s (Some ts) e = from_line s ts e (line_at ts) refl

line_fits : (text : List ℕ) → IfLine (text_line text)
line_fits text =
    pick (nat_lt 200 (length (trimmed text))) None _ tt (pick (is_skipped (trimmed text)) (Some None) _ tt (from_tokens (trimmed text) (line_tokens (trimmed text)) refl))

pub showable : (text : List ℕ) (l : Line) → text_line text ≡ Some (Some l) → IsShowable l
showable text l e = let P : Option (Option Line) → Type 0 = λ o. IfLine o in let f : IfLine (Some (Some l)) = subst P e (line_fits text) in f
