-- A text, cut line by line.
use Rattle.std.proofs.Common.{ℕ, ◌≡◌, ◌+◌, ◌-◌, ◌<◌, ◌≤◌, List, [], ◌∷◌, ◌++◌, length, length-append, Option, Some, None, Err, refl, sym, ◌∙◌, ap, arith}
use Rattle.std.proofs.lemmas.List.{append-nil}
use Rattle.text_base.specs.Lines.{lines, first_line, after_line}
use Rattle.text_base.proofs.LineLaws.{lines_first}
use Rattle.loop_lines.specs.declared.line.Line.{Line}
use Rattle.loop_lines.specs.declared.place.Place.{Place}
use Rattle.loop_lines.specs.declared.place.Place.TheVariants as places
use Rattle.loop_lines.specs.Fitting.{text_line, next_place, ending, misfit, start, open_blocks}
use Rattle.loop_lines.proofs.FitLaws.{stops, went, fewer, next_opens}
use Rattle.loop_syntax.specs.declared.refusal.LoopRefusal.{LoopRefusal}
use Rattle.loop_syntax.specs.declared.refusal.LoopRefusal.TheVariants as refusals
use Rattle.loop_syntax.specs.declared.numbered.Numbered.{Numbered}
use Rattle.loop_syntax.specs.Numbered.{worded, before, numbered_from, numbered}
use Rattle.loop_syntax.specs.Cutting.{IsKept, IsWhole, IsBad}
use Rattle.loop_syntax.proofs.NumberedLaws.{kept_first}

-- the lines that are kept, with those left, are the text's
pub record Progress (all : List ℕ) (kept : List Numbered) (place : Place) (number : ℕ) (rest : List ℕ) : Type 0 where
  pub fits : misfit place number (lines rest) ≡ misfit start 1 (lines all)
  pub taken : kept ++ numbered_from number (lines rest) ≡ numbered (lines all)
  pub counted : number + length (lines rest) ≡ 1 + length (lines all)
  pub near : number + length rest ≤ 1 + length all
  pub blocks : open_blocks place < number
  pub few : length kept < number

pub progress_start : (all : List ℕ) (kept : List Numbered) → kept ≡ [] → Progress all kept start 1 all
progress_start all kept none = record {
  fits = refl;
  taken = ap (λ (l : List Numbered). l ++ numbered (lines all)) none;
  counted = refl;
  near = omega arith;
  blocks = omega arith;
  few = omega (arith, ap length none);
}

one_less : (n total : ℕ) (s after : List ℕ) → 0 < length s → after ≡ after_line s → n + length (lines s) ≡ total → n + 1 + length (lines after) ≡ total
one_less n total [] after some is h = absurd (omega (arith, some))
one_less n total (b ∷ s) after some is h =
    let first : length (lines (b ∷ s)) ≡ length (first_line (b ∷ s) ∷ lines (after_line (b ∷ s))) = ap length (lines_first b s) in
    let rest : length (lines after) ≡ length (lines (after_line (b ∷ s))) = ap (λ (l : List ℕ). length (lines l)) is in
    omega (arith, first, rest, h)

at_most_one : (n : ℕ) (o : Option Line) → length (before n o []) ≤ 1
at_most_one n None = omega arith
at_most_one n (Some l) = omega arith

pub progress_on : (all : List ℕ) (kept new : List Numbered) (p q : Place) (n : ℕ) (rest line after : List ℕ) → 0 < length rest → line ≡ first_line rest → after ≡ after_line rest
    → next_place p line ≡ Some q → new ≡ kept ++ before n (worded (text_line line)) [] → Progress all kept p n rest → Progress all new q (n + 1) after
progress_on all kept new p q n rest line after some is behind moves grown h =
    let opens = next_opens p q line moves in
    let less = fewer rest after some behind in
    let one = at_most_one n (worded (text_line line)) in
    let longer : length new ≡ length kept + length (before n (worded (text_line line)) []) = ap length grown ∙ length-append kept (before n (worded (text_line line)) []) in
    record {
      fits = went rest line after p q n (misfit start 1 (lines all)) some is behind moves h.fits;
      taken = kept_first n rest line after kept new (numbered (lines all)) some is behind grown h.taken;
      counted = one_less n (1 + length (lines all)) rest after some behind h.counted;
      near = omega (arith, less, h.near);
      blocks = omega (arith, opens, h.blocks);
      few = omega (arith, one, longer, h.few);
    }

-- a line that doesn't fit
bad : (ls : List (List ℕ)) (n : ℕ) (next : Option Place) (lines new : List Numbered) (why : LoopRefusal) → (next ≡ None → misfit start 1 ls ≡ Some n) → IsKept n next lines new (Err why) → IsBad ls why
bad ls n next lines new refusals.Memory stop h = tt
bad ls n next lines new (refusals.Text line) stop h = let same : line ≡ n = text_is line n h.1 in stop h.0 ∙ ap Some (sym same)
  where
    text_of : LoopRefusal → ℕ
    text_of (refusals.Text line) = line
    text_of _ = 0

    text_is : (a b : ℕ) → refusals.Text a ≡ refusals.Text b → a ≡ b
    text_is a b e = ap text_of e
bad ls n next lines new (refusals.Name line kind) stop h = absurd cc
bad ls n next lines new (refusals.Limit line kind) stop h = absurd cc

pub stopped_at : (all : List ℕ) (kept new : List Numbered) (p : Place) (n : ℕ) (rest line : List ℕ) (why : LoopRefusal) → 0 < length rest → line ≡ first_line rest
    → Progress all kept p n rest → IsKept n (next_place p line) (kept ++ before n (worded (text_line line)) []) new (Err why) → IsBad (lines all) why
stopped_at all kept new p n rest line why some is h k =
    bad (lines all) n (next_place p line) (kept ++ before n (worded (text_line line)) []) new why (λ e. stops rest p n (misfit start 1 (lines all)) some (ap (next_place p) (sym is) ∙ e) h.fits) k

-- no line is left
pub progress_end : (all : List ℕ) (kept : List Numbered) (n : ℕ) (rest : List ℕ) → length rest ≡ 0 → Progress all kept places.Behind n rest → IsWhole (lines all) (record { count = n - 1; lines = kept })
progress_end all kept n [] none h = record { fits = sym h.fits; lines = sym (append-nil kept) ∙ h.taken; count = omega (arith, h.counted) }
progress_end all kept n (b ∷ s) none h = absurd (omega arith)

pub unended : (all : List ℕ) (kept : List Numbered) (p : Place) (n : ℕ) (rest : List ℕ) → length rest ≡ 0 → Progress all kept p n rest → ending p n ≡ misfit start 1 (lines all)
unended all kept p n [] none h = h.fits
unended all kept p n (b ∷ s) none h = absurd (omega arith)
