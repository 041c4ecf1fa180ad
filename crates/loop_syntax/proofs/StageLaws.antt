-- Lines that fit lead from above the loop to after it.
use Rattle.std.proofs.Common.{◌≡◌, ℕ, zero, suc, ◌+◌, Bool, true, false, List, [], ◌∷◌, Option, Some, None, refl, sym, ap, subst, ◌∙◌}
use Rattle.loop_lines.specs.declared.line.Line.{Line}
use Rattle.loop_lines.specs.declared.line.Line.TheVariants as lines
use Rattle.loop_lines.specs.declared.place.Place.{Place}
use Rattle.loop_lines.specs.declared.place.Place.TheVariants as places
use Rattle.loop_lines.specs.Reading.{or_else}
use Rattle.loop_lines.specs.Fitting.{text_line, heading_after, body_after, place_after, moved, next_place, ending, misfit}
use Rattle.loop_lines.proofs.TermLaws.{bind_some, some_is}
use Rattle.loop_syntax.specs.declared.numbered.Numbered.{Numbered}
use Rattle.loop_syntax.specs.Numbered.{worded, before, numbered_from}
use Rattle.loop_syntax.specs.Stages.{Stage, Above, Within, Behind, stage_above, stage_within, stage_after, stage_at_end, AreNested}

abbrev stage_at : Place → Stage
stage_at (places.Heading matrix) = Above
stage_at (places.Inside blocks) = Within blocks
stage_at places.Behind = Behind

abbrev lifted : Option Place → Option Stage
lifted None = None
lifted (Some p) = Some (stage_at p)

heading : (m : Bool) (l : Line) (q : Place) → heading_after m l ≡ Some q → stage_above l ≡ Some (stage_at q)
heading false (lines.Matrix name form) q e = ap lifted e
heading true (lines.Matrix name form) q e = absurd cc
heading false (lines.Index name size) q e = ap lifted e
heading true (lines.Index name size) q e = ap lifted e
heading false (lines.Vector name size source) q e = ap lifted e
heading true (lines.Vector name size source) q e = ap lifted e
heading false (lines.Local name) q e = ap lifted e
heading true (lines.Local name) q e = ap lifted e
heading false (lines.Prop prop) q e = ap lifted e
heading true (lines.Prop prop) q e = ap lifted e
heading true (lines.Loop name) q e = ap lifted e
heading false (lines.Loop name) q e = absurd cc
heading false (lines.For name lo hi) q e = absurd cc
heading true (lines.For name lo hi) q e = absurd cc
heading false (lines.When rel left right) q e = absurd cc
heading true (lines.When rel left right) q e = absurd cc
heading false (lines.Set array at value) q e = absurd cc
heading true (lines.Set array at value) q e = absurd cc
heading false (lines.Keep name value) q e = absurd cc
heading true (lines.Keep name value) q e = absurd cc
heading false lines.End q e = absurd cc
heading true lines.End q e = absurd cc

body : (k : ℕ) (l : Line) (q : Place) → body_after k l ≡ Some q → stage_within k l ≡ Some (stage_at q)
body k (lines.Matrix name form) q e = absurd cc
body k (lines.Index name size) q e = absurd cc
body k (lines.Vector name size source) q e = absurd cc
body k (lines.Local name) q e = absurd cc
body k (lines.Prop prop) q e = absurd cc
body k (lines.Loop name) q e = absurd cc
body k (lines.For name lo hi) q e = ap lifted e
body k (lines.When rel left right) q e = ap lifted e
body k (lines.Set array at value) q e = ap lifted e
body k (lines.Keep name value) q e = ap lifted e
body zero lines.End q e = ap lifted e
body (suc k) lines.End q e = ap lifted e

placed : (p : Place) (l : Line) (q : Place) → place_after p l ≡ Some q → stage_after (stage_at p) l ≡ Some (stage_at q)
placed (places.Heading m) l q e = heading m l q e
placed (places.Inside k) l q e = body k l q e
placed places.Behind l q e = absurd cc

-- a line that fits, and the lines after it
stepped : (p q : Place) (n : ℕ) (o : Option Line) (more : List Numbered) → moved p o ≡ Some q → AreNested (stage_at q) more → AreNested (stage_at p) (before n o more)
stepped p q n None more e h = subst (λ (p : Place). AreNested (stage_at p) more) (sym (some_is p q e)) h
stepped p q n (Some l) more e h = rw (placed p l q e) h

ended : (p : Place) (n : ℕ) → ending p n ≡ None → AreNested (stage_at p) []
ended (places.Heading m) n e = absurd cc
ended (places.Inside k) n e = absurd cc
ended places.Behind n e = refl

pub line_is : (p q : Place) (l : List ℕ) → next_place p l ≡ Some q → moved p (worded (text_line l)) ≡ Some q
line_is p q l e =
    let b = bind_some (text_line l) (λ x. moved p x) q e in
    ap (λ (o : Option (Option Line)). moved p (worded o)) b.1 ∙ b.2

abbrev pub goes : ℕ → List (List ℕ) → Option Place → Option ℕ
goes n ls next = or_else next (λ q. misfit q (n + 1) ls) (Some n)

pub went : (n : ℕ) (ls : List (List ℕ)) (o : Option Place) → goes n ls o ≡ None → (q : Place) × (o ≡ Some q) × (misfit q (n + 1) ls ≡ None)
went n ls None e = absurd cc
went n ls (Some q) e = (q, refl, e)

pub nested : (p : Place) (n : ℕ) (ls : List (List ℕ)) → misfit p n ls ≡ None → AreNested (stage_at p) (numbered_from n ls)
nested p n [] e = ended p n e
nested p n (l ∷ ls) e =
    let w = went n ls (next_place p l) e in
    stepped p w.0 n (worded (text_line l)) (numbered_from (n + 1) ls) (line_is p w.0 l w.1) (nested w.0 (n + 1) ls w.2)

-- the first of lines that are nested, and the others
pub nested_next : (stage : Stage) (l : Numbered) (ls : List Numbered) → AreNested stage (l ∷ ls) → (next : Stage) × (stage_after stage l.line ≡ Some next) × AreNested next ls
nested_next stage l ls h = bind_some (stage_after stage l.line) (λ next. stage_at_end next ls) Behind h
