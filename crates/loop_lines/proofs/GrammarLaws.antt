-- Reading from the left gives what is of the grammar.
use Rattle.std.proofs.Common.{◌≡◌, ℕ, ◌*◌, true, false, if◌then◌else◌, ◌==◌, nat_lt, length, List, [], ◌∷◌, Option, Some, None, refl, sym, ap, subst, ◌∙◌, arith}
use Rattle.std.specs.Prelude.{◌↔◌, Result, Ok, Err, IfOk}
use Rattle.std.proofs.lemmas.Bool.Decides.{nat_tests}
use Rattle.text_base.specs.Lines.{trimmed}
use Rattle.text_base.specs.Words.{after_blanks}
use Rattle.loop_lines.specs.declared.refusal.LineRefusal.{LineRefusal}
use Rattle.loop_lines.specs.declared.token.Token.{Token}
use Rattle.loop_lines.specs.declared.tree.NamedExpr.{NamedExpr}
use Rattle.loop_lines.specs.declared.line.Line.{Line}
use Rattle.loop_lines.specs.Exprs.{IsExpr}
use Rattle.loop_lines.specs.Lines.{IsLine}
use Rattle.loop_lines.specs.Reading.{◌>>=◌, Gives}
use Rattle.loop_lines.specs.ExprReading.{whole_at}
use Rattle.loop_lines.specs.LineReading.{line_at}
use Rattle.loop_lines.specs.Tokens.{pieces, tokens_of, line_tokens}
use Rattle.loop_lines.specs.Fitting.{is_comment, is_skipped, formed, text_line}
use Rattle.loop_lines.specs.TextLines.{IsWorded, Says, IsTextLine}
use Rattle.loop_lines.proofs.TermLaws.{bind_some, some_is}
use Rattle.loop_lines.proofs.ExprLaws.{whole_sound, whole_again}
use Rattle.loop_lines.proofs.LineLaws.{line_sound, line_again}
use Rattle.loop_lines.proofs.TokenLaws.{blanks_are}
use Rattle.loop_lines.proofs.ShownTexts.{known}

-- ---- expressions and lines

expr_read : (ts : List Token) (e : NamedExpr) → IsExpr ts e → whole_at (3 * length ts) ts ≡ Some e
expr_read ts e p =
    subst (λ (l : List Token). whole_at (3 * length ts) l ≡ Some e) (sym p.tokens)
    (whole_again p.written (3 * length ts) (omega (arith, ap length p.tokens)) ∙ ap (λ (x : NamedExpr). Some x) p.means)

pub expr_is : (ts : List Token) (e : NamedExpr) → whole_at (3 * length ts) ts ≡ Some e ↔ IsExpr ts e
expr_is ts e = (whole_sound (3 * length ts) ts e, expr_read ts e)

line_read : (ts : List Token) (l : Line) → IsLine ts l → line_at ts ≡ Some l
line_read ts l p = ap line_at p.tokens ∙ line_again p.written ∙ ap (λ (x : Line). Some x) p.means

pub line_is : (ts : List Token) (l : Line) → line_at ts ≡ Some l ↔ IsLine ts l
line_is ts l = (line_sound ts l, line_read ts l)

pub one_meaning : (ts : List Token) (l m : Line) → IsLine ts l → IsLine ts m → l ≡ m
one_meaning ts l m p q = some_is l m (sym (line_read ts l p) ∙ line_read ts m q)

-- ---- the bytes of a line

formed_sound : (text : List ℕ) (said : Option Line) → formed text ≡ Some said → Says text said
formed_sound text said e =
    let ts = bind_some (line_tokens text) (λ ts. line_at ts >>= λ l. Some (Some l)) said e in
    let l = bind_some (line_at ts.0) (λ l. Some (Some l)) said ts.2 in
    let worded : Says text (Some l.0) = record { words = ts.0; are = ts.1; line = line_sound ts.0 l.0 l.1 } in
    subst (Says text) (some_is (Some l.0) said l.2) worded

said_sound : (text : List ℕ) (said : Option Line) → (if is_skipped text then Some None else formed text) ≡ Some said → Says text said
said_sound text said =
    known (λ v. (if v then Some None else formed text) ≡ Some said → Says text said) (is_skipped text)
    (λ d e. subst (Says text) (some_is None said e) d)
    (λ d e. formed_sound text said e)

text_sound : (line : List ℕ) (said : Option Line) → text_line line ≡ Some said → IsTextLine line said
text_sound line said =
    known (λ v. (if v then None else (if is_skipped (trimmed line) then Some None else formed (trimmed line))) ≡ Some said → IsTextLine line said) (nat_lt 200 (length (trimmed line)))
    (λ d e. absurd cc)
    (λ d e. record { short = grind (arith, nat_tests); says = said_sound (trimmed line) said e })

no_value : {A : Type 0} {x : A} → None ≡ Some x → ⊥
no_value e = cc

stray : (b : ℕ) (s : List ℕ) → b ≡ 35 → tokens_of (pieces (b ∷ s)) ≡ None
stray b s is = rw is refl

hash : (b : ℕ) → (b == 35) ≡ true → b ≡ 35
hash b e = grind (arith, nat_tests)

-- words and signs begin no comment
no_comment : (s : List ℕ) (ts : List Token) (l : Line) → IsLine ts l → tokens_of (pieces s) ≡ Some ts → is_comment s ≡ false
no_comment [] ts l is e =
    let none : IsLine [] l = subst (λ (x : List Token). IsLine x l) (sym (some_is [] ts e)) is in
    absurd (no_value (line_read [] l none))
no_comment (b ∷ s) ts l is e =
    known (λ v. v ≡ false) (b == 35)
    (λ d. absurd (no_value (sym (stray b s (hash b d)) ∙ e)))
    (λ d. refl)

not_skipped : (text : List ℕ) (l : Line) → IsWorded text l → is_skipped text ≡ false
not_skipped text l w = no_comment (after_blanks text) w.words l w.line (blanks_are text ∙ w.are)

said_again : (text : List ℕ) (said : Option Line) → Says text said → (if is_skipped text then Some None else formed text) ≡ Some said
said_again text None h = rw h refl
said_again text (Some l) h = rw (not_skipped text l h, h.are, line_read h.words l h.line) refl

text_again : (line : List ℕ) (said : Option Line) → IsTextLine line said → text_line line ≡ Some said
text_again line said h =
    let short : nat_lt 200 (length (trimmed line)) ≡ false = grind (arith, nat_tests, h.short) in
    rw short (said_again (trimmed line) said h.says)

pub text_is : (line : List ℕ) (said : Option Line) → text_line line ≡ Some said ↔ IsTextLine line said
text_is line said = (text_sound line said, text_again line said)

-- ---- an answer that is read so

pub found_is : (line : List ℕ) (r : Result (Option Line) LineRefusal) → Gives (λ x. x) r (text_line line) → IfOk r (λ said. IsTextLine line said)
found_is line (Ok said) h = text_sound line said h
found_is line (Err e) h = tt

pub only_is : (line : List ℕ) (r : Result (Option Line) LineRefusal) (said : Option Line) → IsTextLine line said → Gives (λ x. x) r (text_line line) → Gives (λ x. x) r (Some said)
only_is line r said p h = subst (λ (o : Option (Option Line)). Gives (λ x. x) r o) (text_again line said p) h
