-- Where lines of a text fit, their canonical texts fit.
use Rattle.std.proofs.Common.{◌≡◌, ℕ, ◌+◌, List, [], ◌∷◌, Option, Some, None, sym, ap, subst, ◌∙◌}
use Rattle.loop_lines.specs.declared.line.Line.{Line}
use Rattle.loop_lines.specs.declared.place.Place.{Place}
use Rattle.loop_lines.specs.declared.place.Place.TheVariants as places
use Rattle.loop_lines.specs.Reading.{◌>>=◌}
use Rattle.loop_lines.specs.Fitting.{text_line, place_after, moved, next_place, ending, misfit}
use Rattle.loop_lines.proofs.TermLaws.{bind_some, some_is}
use Rattle.loop_syntax.specs.declared.numbered.Numbered.{Numbered}
use Rattle.loop_syntax.specs.Numbered.{worded, before, numbered_from}
use Rattle.loop_laws.specs.ShownText.{blocks_behind, shown_lines, AreShort}
use Rattle.loop_syntax.proofs.StageLaws.{line_is, goes, went}
use Rattle.loop_laws.proofs.BackText.{AreShowable, line_back}

-- where lines lead, and none where one of them doesn't fit
abbrev leads : Place → List Numbered → Option Place
leads p [] = Some p
leads p (l ∷ ls) = place_after p l.line >>= λ q. leads q ls

-- to the end of the loop
abbrev pub LeadsBehind : Place → List Numbered → Type 0
LeadsBehind p ls = leads p ls ≡ Some places.Behind

led : (p q : Place) (n : ℕ) (o : Option Line) (more : List Numbered) → moved p o ≡ Some q → LeadsBehind q more → LeadsBehind p (before n o more)
led p q n None more e h = subst (λ (x : Place). LeadsBehind x more) (sym (some_is p q e)) h
led p q n (Some l) more e h = ap (λ (x : Option Place). x >>= λ y. leads y more) e ∙ h

ended : (p : Place) (n : ℕ) → ending p n ≡ None → LeadsBehind p []
ended (places.Heading m) n e = absurd cc
ended (places.Inside k) n e = absurd cc
ended places.Behind n e = cc

pub leads_behind : (p : Place) (n : ℕ) (ls : List (List ℕ)) → misfit p n ls ≡ None → LeadsBehind p (numbered_from n ls)
leads_behind p n [] e = ended p n e
leads_behind p n (l ∷ ls) e =
    let w = went n ls (next_place p l) e in
    led p w.0 n (worded (text_line l)) (numbered_from (n + 1) ls) (line_is p w.0 l w.1) (leads_behind w.0 (n + 1) ls w.2)

pub fits_back : (p : Place) (n k : ℕ) (ls : List Numbered) → LeadsBehind p ls → AreShowable ls → AreShort (shown_lines k ls) → misfit p n (shown_lines k ls) ≡ None
fits_back p n k [] e h short = ap (λ (q : Place). ending q n) (some_is p places.Behind e)
fits_back p n k (l ∷ ls) e h short =
    let b = bind_some (place_after p l.line) (λ q. leads q ls) places.Behind e in
    let next = ap (λ (o : Option (Option Line)). o >>= λ x. moved p x) (line_back k l.line h.0 short.0) ∙ b.1 in
    ap (goes n (shown_lines (blocks_behind k l.line) ls)) next ∙ fits_back b.0 (n + 1) (blocks_behind k l.line) ls b.2 h.1 short.1
