-- The lines that have words, one after another.
use Rattle.std.proofs.Common.{ℕ, ◌≡◌, ◌+◌, ◌<◌, List, [], ◌∷◌, ◌++◌, length, Option, Some, None, drop, get_or, refl, sym, ◌∙◌, ap, arith, drop-cons, add-one, append_assoc}
use Rattle.text_base.specs.Lines.{lines, first_line, after_line}
use Rattle.text_base.proofs.LineLaws.{lines_first}
use Rattle.loop_lines.specs.declared.line.Line.{Line}
use Rattle.loop_lines.specs.Fitting.{text_line}
use Rattle.loop_syntax.specs.declared.numbered.Numbered.{Numbered}
use Rattle.loop_syntax.specs.Numbered.{worded, before, numbered_from}

before_more : (n : ℕ) (o : Option Line) (more : List Numbered) → before n o [] ++ more ≡ before n o more
before_more n None more = refl
before_more n (Some l) more = refl

-- the first line, and those after it
pub first_of : (n : ℕ) (s line after : List ℕ) → 0 < length s → line ≡ first_line s → after ≡ after_line s
    → numbered_from n (lines s) ≡ before n (worded (text_line line)) (numbered_from (n + 1) (lines after))
first_of n [] line after some is rest = absurd (omega (arith, some))
first_of n (b ∷ s) line after some is rest = ap (numbered_from n) (lines_first b s) ∙ rw (sym is, sym rest) refl

-- the first line is kept, and the others are left
pub kept_first : (n : ℕ) (s line after : List ℕ) (kept new all : List Numbered) → 0 < length s → line ≡ first_line s → after ≡ after_line s → new ≡ kept ++ before n (worded (text_line line)) []
    → kept ++ numbered_from n (lines s) ≡ all → new ++ numbered_from (n + 1) (lines after) ≡ all
kept_first n s line after kept new all some is rest grown h =
    let more = numbered_from (n + 1) (lines after) in
    let o = worded (text_line line) in
    ap (λ (l : List Numbered). l ++ more) grown
    ∙ append_assoc kept (before n o []) more
    ∙ ap (λ (l : List Numbered). kept ++ l) (before_more n o more ∙ sym (first_of n s line after some is rest))
    ∙ h

-- the next line of a list, and those after it
pub next_here : (ls : List Numbered) (i : ℕ) (l : Numbered) → i < length ls → l ≡ get_or ls i l → drop i ls ≡ l ∷ drop (i + 1) ls
next_here ls i l lt is = rw (add-one, drop-cons ls i l lt, sym is) refl
