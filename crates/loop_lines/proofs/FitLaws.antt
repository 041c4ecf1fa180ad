-- The least line that doesn't fit, line by line.
use Rattle.std.proofs.Common.{◌≡◌, ℕ, zero, suc, ◌+◌, ◌≤◌, ◌<◌, Bool, true, false, List, [], ◌∷◌, length, Option, Some, None, refl, sym, ap, subst, ◌∙◌, arith}
use Rattle.text_base.specs.Lines.{lines, first_line, after_line}
use Rattle.text_base.proofs.LineLaws.{lines_first, after_less}
use Rattle.loop_lines.specs.declared.line.Line.{Line}
use Rattle.loop_lines.specs.declared.line.Line.TheVariants as forms
use Rattle.loop_lines.specs.declared.place.Place.{Place}
use Rattle.loop_lines.specs.declared.place.Place.TheVariants.{Heading, Inside, Behind}
use Rattle.loop_lines.specs.Fitting.{text_line, heading_after, body_after, place_after, moved, next_place, misfit, open_blocks}
use Rattle.loop_lines.proofs.TermLaws.{bind_some}

pub goes_on : (s : List ℕ) (p q : Place) (n : ℕ) (total : Option ℕ) → 0 < length s → next_place p (first_line s) ≡ Some q → misfit p n (lines s) ≡ total → misfit q (n + 1) (lines (after_line s)) ≡ total
goes_on [] p q n total some e h = absurd (omega arith)
goes_on (b ∷ s) p q n total some e h =
    let one : misfit p n (first_line (b ∷ s) ∷ lines (after_line (b ∷ s))) ≡ misfit q (n + 1) (lines (after_line (b ∷ s))) = rw e refl in
    sym one ∙ ap (misfit p n) (sym (lines_first b s)) ∙ h

pub stops : (s : List ℕ) (p : Place) (n : ℕ) (total : Option ℕ) → 0 < length s → next_place p (first_line s) ≡ None → misfit p n (lines s) ≡ total → total ≡ Some n
stops [] p n total some e h = absurd (omega arith)
stops (b ∷ s) p n total some e h =
    let one : misfit p n (first_line (b ∷ s) ∷ lines (after_line (b ∷ s))) ≡ Some n = rw e refl in
    sym h ∙ ap (misfit p n) (lines_first b s) ∙ one

-- ---- a line opens at most one block

abbrev AtMost : ℕ → Option Place → Type 0
AtMost n None = Unit {0}
AtMost n (Some q) = open_blocks q ≤ n

heading_opens : (m : Bool) (l : Line) → AtMost 1 (heading_after m l)
heading_opens false (forms.Matrix name form) = omega arith
heading_opens m (forms.Index name size) = omega arith
heading_opens m (forms.Vector name size source) = omega arith
heading_opens m (forms.Local name) = omega arith
heading_opens m (forms.Prop prop) = omega arith
heading_opens true (forms.Loop name) = omega arith
heading_opens _ _ = tt

body_opens : (k : ℕ) (l : Line) → AtMost (k + 1) (body_after k l)
body_opens k (forms.For name lo hi) = omega arith
body_opens k (forms.When rel left right) = omega arith
body_opens k (forms.Set array at value) = omega arith
body_opens k (forms.Keep name value) = omega arith
body_opens zero forms.End = omega arith
body_opens (suc k) forms.End = omega arith
body_opens _ _ = tt

place_opens : (p : Place) (l : Line) → AtMost (open_blocks p + 1) (place_after p l)
place_opens (Heading m) l = heading_opens m l
place_opens (Inside k) l = body_opens k l
place_opens Behind l = tt

moved_opens : (p : Place) (l : Option Line) → AtMost (open_blocks p + 1) (moved p l)
moved_opens p None = omega arith
moved_opens p (Some l) = place_opens p l

pub next_opens : (p q : Place) (s : List ℕ) → next_place p s ≡ Some q → open_blocks q ≤ open_blocks p + 1
next_opens p q s e =
    let b = bind_some (text_line s) (λ l. moved p l) q e in
    subst (AtMost (open_blocks p + 1)) b.2 (moved_opens p b.0)

-- ---- the loop

pub went : (s line after : List ℕ) (p q : Place) (n : ℕ) (total : Option ℕ) → 0 < length s → line ≡ first_line s → after ≡ after_line s → next_place p line ≡ Some q → misfit p n (lines s) ≡ total → misfit q (n + 1) (lines after) ≡ total
went s line after p q n total lt is rest e h =
    ap (λ (l : List ℕ). misfit q (n + 1) (lines l)) rest ∙ goes_on s p q n total lt (ap (next_place p) (sym is) ∙ e) h

pub fewer : (s after : List ℕ) → 0 < length s → after ≡ after_line s → length after < length s
fewer s after lt is = rw is (after_less s lt)
