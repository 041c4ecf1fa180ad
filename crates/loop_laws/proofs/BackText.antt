-- The canonical texts of lines are read as those lines.
use Rattle.std.proofs.Common.{◌≡◌, ℕ, zero, suc, ◌+◌, ◌≤◌, List, [], ◌∷◌, ◌++◌, length, Option, Some, None, refl, ap, ◌∙◌, arith}
use Rattle.text_base.specs.Lines.{lines}
use Rattle.loop_lines.specs.declared.line.Line.{Line}
use Rattle.loop_lines.specs.Fitting.{text_line}
use Rattle.loop_lines.specs.Shown.{shown_line}
use Rattle.loop_lines.specs.Showable.{IsShowable}
use Rattle.loop_lines.specs.ReadBack.{AreBlanks, IsInner}
use Rattle.loop_lines.proofs.ShownLaws.{reads_back, showable, one_line}
use Rattle.loop_syntax.specs.declared.numbered.Numbered.{Numbered}
use Rattle.loop_syntax.specs.Numbered.{worded, before, numbered_from}
use Rattle.loop_laws.specs.ShownText.{margin, blocks_behind, blocks_round, shown_lines, unlines, AreShort}

-- ---- lines of a text can be shown

abbrev pub AreShowable : List Numbered → Type 0
AreShowable [] = Unit {0}
AreShowable (l ∷ ls) = IsShowable l.line × AreShowable ls

before_showable : (n : ℕ) (line : List ℕ) (o : Option (Option Line)) (ls : List Numbered) → text_line line ≡ o → AreShowable ls → AreShowable (before n (worded o) ls)
before_showable n line None ls e h = h
before_showable n line (Some None) ls e h = h
before_showable n line (Some (Some l)) ls e h = (showable line l e, h)

pub are_showable : (n : ℕ) (ls : List (List ℕ)) → AreShowable (numbered_from n ls)
are_showable n [] = tt
are_showable n (l ∷ ls) = before_showable n l (text_line l) (numbered_from (n + 1) ls) refl (are_showable (n + 1) ls)

-- ---- their texts, one after another

margin_blank : (k : ℕ) → AreBlanks (margin k)
margin_blank zero = refl
margin_blank (suc k) = margin_blank k

abbrev AreInner : List (List ℕ) → Type 0
AreInner [] = Unit {0}
AreInner (l ∷ ls) = IsInner l × AreInner ls

shown_inner : (k : ℕ) (ls : List Numbered) → AreShowable ls → AreInner (shown_lines k ls)
shown_inner k [] h = tt
shown_inner k (l ∷ ls) h =
    let blanks = margin (blocks_round k l.line) in
    ((reads_back l.line h.0).inner blanks (margin_blank (blocks_round k l.line)), shown_inner (blocks_behind k l.line) ls h.1)

lines_of : (ls : List (List ℕ)) → AreInner ls → lines (unlines ls) ≡ ls
lines_of [] h = refl
lines_of (l ∷ ls) h = one_line l (unlines ls) h.0 ∙ ap (λ (more : List (List ℕ)). l ∷ more) (lines_of ls h.1)

pub lines_back : (k : ℕ) (ls : List Numbered) → AreShowable ls → lines (unlines (shown_lines k ls)) ≡ shown_lines k ls
lines_back k ls h = lines_of (shown_lines k ls) (shown_inner k ls h)

-- ---- each text is read as its line

pub line_back : (k : ℕ) (l : Line) → IsShowable l → length (margin (blocks_round k l) ++ shown_line l) ≤ 200 → text_line (margin (blocks_round k l) ++ shown_line l) ≡ Some (Some l)
line_back k l h short = (reads_back l h).same (margin (blocks_round k l)) (margin_blank (blocks_round k l)) short

-- the same lines with numbers from n on
abbrev pub counted : ℕ → List Numbered → List Numbered
counted n [] = []
counted n (l ∷ ls) = record { number = n; line = l.line } ∷ counted (n + 1) ls

pub counted_back : (n k : ℕ) (ls : List Numbered) → AreShowable ls → AreShort (shown_lines k ls) → numbered_from n (shown_lines k ls) ≡ counted n ls
counted_back n k [] h short = refl
counted_back n k (l ∷ ls) h short =
    let more = numbered_from (n + 1) (shown_lines (blocks_behind k l.line) ls) in
    ap (λ (o : Option (Option Line)). before n (worded o) more) (line_back k l.line h.0 short.0)
    ∙ ap (λ (rest : List Numbered). record { number = n; line = l.line } ∷ rest) (counted_back (n + 1) (blocks_behind k l.line) ls h.1 short.1)

-- ---- how many there are

pub shown_length : (k : ℕ) (ls : List Numbered) → length (shown_lines k ls) ≡ length ls
shown_length k [] = refl
shown_length k (l ∷ ls) = omega (arith, shown_length (blocks_behind k l.line) ls)

before_length : (n m : ℕ) (o : Option Line) (ls : List Numbered) → length ls ≤ m → length (before n o ls) ≤ m + 1
before_length n m None ls h = omega (arith, h)
before_length n m (Some l) ls h = omega (arith, h)

pub numbered_length : (n : ℕ) (ls : List (List ℕ)) → length (numbered_from n ls) ≤ length ls
numbered_length n [] = omega arith
numbered_length n (l ∷ ls) =
    let more = before_length n (length ls) (worded (text_line l)) (numbered_from (n + 1) ls) (numbered_length (n + 1) ls) in
    omega (arith, more)
