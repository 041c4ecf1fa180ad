-- Reading a text gives what it is by the grammar of its lines.
use Rattle.std.proofs.Common.{◌≡◌, ℕ, ◌+◌, List, [], ◌∷◌, ◌++◌, length, Option, Some, None, refl, sym, ap, subst, ◌∙◌, arith}
use Rattle.std.specs.Prelude.{◌↔◌, Result, Ok, Err}
use Rattle.std.specs.Option.{option_map}
use Rattle.loop_core.specs.declared.nest.Nest.{Nest}
use Rattle.loop_lines.specs.declared.line.Line.{Line}
use Rattle.loop_lines.specs.declared.place.Place.{Place}
use Rattle.loop_lines.specs.declared.place.Place.TheVariants as places
use Rattle.loop_lines.specs.Reading.{◌>>=◌}
use Rattle.loop_lines.specs.Words.{either}
use Rattle.loop_lines.specs.Fitting.{text_line, moved, next_place, ending, misfit, start}
use Rattle.loop_lines.specs.TextLines.{IsTextLine}
use Rattle.loop_lines.proofs.TermLaws.{bind_some, some_is}
use Rattle.loop_lines.proofs.GrammarLaws.{text_is}
use Rattle.loop_syntax.specs.declared.refusal.LimitKind.{LimitKind}
use Rattle.loop_syntax.specs.declared.refusal.NameKind.{NameKind}
use Rattle.loop_syntax.specs.declared.refusal.LoopRefusal.{LoopRefusal}
use Rattle.loop_syntax.specs.declared.refusal.LoopRefusal.TheVariants as refusals
use Rattle.loop_syntax.specs.declared.numbered.Numbered.{Numbered}
use Rattle.loop_syntax.specs.Numbered.{worded, before, numbered_from, numbered}
use Rattle.loop_syntax.specs.Scope.{empty}
use Rattle.loop_syntax.specs.NameRules.{first_fault}
use Rattle.loop_syntax.specs.Counts.{first_limit}
use Rattle.loop_syntax.specs.TextNest.{IsNestOf, broken, refusal, IsRead, Answers}
use Rattle.loop_syntax.specs.Texts.{AreSaid, leads, counted, HasLines, Stops, IsMisfit, IsBroken, IsRefused, HasNest, IsAnswer}
use Rattle.loop_syntax.proofs.StageLaws.{goes, went}
use Rattle.loop_syntax.proofs.FewLaws.{either_none}
use Rattle.loop_syntax.proofs.ReadLaws.{map_none}
use Rattle.loop_syntax.proofs.OneNest.{one_nest}

-- a line that says something moves the place on
next_is : (p : Place) (l : List ℕ) (s : Option Line) → IsTextLine l s → next_place p l ≡ moved p s
next_is p l s is = ap (λ (o : Option (Option Line)). o >>= λ x. moved p x) ((text_is l s).1 is)

-- what a line that moves the place on says
pub record Moves (p q : Place) (l : List ℕ) : Type 0 where
  pub says : Option Line
  pub is : IsTextLine l says
  pub moves : moved p says ≡ Some q

moves_on : (p q : Place) (l : List ℕ) → next_place p l ≡ Some q → Moves p q l
moves_on p q l e =
    let b = bind_some (text_line l) (λ s. moved p s) q e in
    record { says = b.0; is = (text_is l b.0).0 b.1; moves = b.2 }

-- ---- lines that fit

fit_only : (p : Place) (n : ℕ) (ls : List (List ℕ)) (said : List (Option Line)) → AreSaid ls said → leads p said ≡ Some places.Behind → misfit p n ls ≡ None
fit_only p n [] [] are e = rw (some_is p places.Behind e) refl
fit_only p n [] (s ∷ said) are e = absurd are
fit_only p n (l ∷ ls) [] are e = absurd are
fit_only p n (l ∷ ls) (s ∷ said) are e =
    let b = bind_some (moved p s) (λ q. leads q said) places.Behind e in
    ap (goes n ls) (next_is p l s are.0 ∙ b.1) ∙ fit_only b.0 (n + 1) ls said are.1 b.2

lines_are : (n : ℕ) (ls : List (List ℕ)) (said : List (Option Line)) → AreSaid ls said → numbered_from n ls ≡ counted n said
lines_are n [] [] are = refl
lines_are n [] (s ∷ said) are = absurd are
lines_are n (l ∷ ls) [] are = absurd are
lines_are n (l ∷ ls) (s ∷ said) are =
    ap (λ (o : Option (Option Line)). before n (worded o) (numbered_from (n + 1) ls)) ((text_is l s).1 are.0) ∙ ap (before n s) (lines_are (n + 1) ls said are.1)

pub record Said (p : Place) (ls : List (List ℕ)) : Type 0 where
  pub said : List (Option Line)
  pub are : AreSaid ls said
  pub fit : leads p said ≡ Some places.Behind

at_end : (p : Place) (n : ℕ) → ending p n ≡ None → Some p ≡ Some places.Behind
at_end (places.Heading matrix) n e = absurd cc
at_end (places.Inside blocks) n e = absurd cc
at_end places.Behind n e = refl

fit_found : (p : Place) (n : ℕ) (ls : List (List ℕ)) → misfit p n ls ≡ None → Said p ls
fit_found p n [] e = record { said = []; are = tt; fit = at_end p n e }
fit_found p n (l ∷ ls) e =
    let w = went n ls (next_place p l) e in
    let m = moves_on p w.0 l w.1 in
    let more = fit_found w.0 (n + 1) ls w.2 in
    record { said = m.says ∷ more.said; are = (m.is, more.are); fit = ap (λ (o : Option Place). o >>= λ q. leads q more.said) m.moves ∙ more.fit }

pub has_lines : (ls : List (List ℕ)) → misfit start 1 ls ≡ None → HasLines ls (numbered ls)
has_lines ls e = let s = fit_found start 1 ls e in record { said = s.said; are = s.are; fit = s.fit; lines = lines_are 1 ls s.said s.are }

pub lines_fit : (ls : List (List ℕ)) (lines : List Numbered) → HasLines ls lines → misfit start 1 ls ≡ None
lines_fit ls lines h = fit_only start 1 ls h.said h.are h.fit

pub lines_same : (ls : List (List ℕ)) (lines : List Numbered) → HasLines ls lines → numbered ls ≡ lines
lines_same ls lines h = lines_are 1 ls h.said h.are ∙ sym h.lines

-- ---- the least line that doesn't fit

unended : (p : Place) (n : ℕ) → (p ≡ places.Behind → ⊥) → ending p n ≡ Some n
unended (places.Heading matrix) n h = refl
unended (places.Inside blocks) n h = refl
unended places.Behind n h = absurd (h refl)

stuck : (p : Place) (l : List ℕ) (o : Option (Option Line)) → text_line l ≡ o → ((s : Option Line) → IsTextLine l s → moved p s ≡ None) → next_place p l ≡ None
stuck p l None e h = ap (λ (o : Option (Option Line)). o >>= λ x. moved p x) e
stuck p l (Some s) e h = next_is p l s ((text_is l s).0 e) ∙ h s ((text_is l s).0 e)

stops_here : (p : Place) (n : ℕ) (rest : List (List ℕ)) → Stops p rest → misfit p n rest ≡ Some n
stops_here p n [] h = unended p n h
stops_here p n (l ∷ ls) h = ap (goes n ls) (stuck p l (text_line l) refl h)

misfit_only : (p q : Place) (n : ℕ) (front rest : List (List ℕ)) (said : List (Option Line)) → AreSaid front said → leads p said ≡ Some q → Stops q rest → misfit p n (front ++ rest) ≡ Some (n + length front)
misfit_only p q n [] rest [] are e stop =
    let same : n ≡ n + 0 = omega arith in
    stops_here p n rest (subst (λ (x : Place). Stops x rest) (sym (some_is p q e)) stop) ∙ ap (λ (k : ℕ). Some k) same
misfit_only p q n [] rest (s ∷ said) are e stop = absurd are
misfit_only p q n (l ∷ front) rest [] are e stop = absurd are
misfit_only p q n (l ∷ front) rest (s ∷ said) are e stop =
    let b = bind_some (moved p s) (λ x. leads x said) q e in
    let more = misfit_only b.0 q (n + 1) front rest said are.1 b.2 stop in
    let same : n + 1 + length front ≡ n + length (l ∷ front) = omega arith in
    ap (goes n (front ++ rest)) (next_is p l s are.0 ∙ b.1) ∙ more ∙ ap (λ (k : ℕ). Some k) same

-- where lines stop to fit
pub record Stopped (p : Place) (n m : ℕ) (ls : List (List ℕ)) : Type 0 where
  pub front : List (List ℕ)
  pub rest : List (List ℕ)
  pub parts : ls ≡ front ++ rest
  pub number_is : m ≡ n + length front
  pub said : List (Option Line)
  pub are : AreSaid front said
  pub place : Place
  pub fit : leads p said ≡ Some place
  pub stops : Stops place rest

not_behind : (p : Place) (n m : ℕ) → ending p n ≡ Some m → (p ≡ places.Behind → ⊥) × (m ≡ n)
not_behind (places.Heading matrix) n m e = ((λ h. absurd cc), sym (some_is n m e))
not_behind (places.Inside blocks) n m e = ((λ h. absurd cc), sym (some_is n m e))
not_behind places.Behind n m e = absurd cc

no_value : {A : Type 0} {x : A} → None ≡ Some x → ⊥
no_value e = cc

says_none : (p : Place) (l : List ℕ) → next_place p l ≡ None → (s : Option Line) → IsTextLine l s → moved p s ≡ None
says_none p l e s is = sym (next_is p l s is) ∙ e

stopped_from : (p : Place) (n m : ℕ) (l : List ℕ) (ls : List (List ℕ)) (o : Option Place) → next_place p l ≡ o → goes n ls o ≡ Some m → ((q : Place) → misfit q (n + 1) ls ≡ Some m → Stopped q (n + 1) m ls) → Stopped p n m (l ∷ ls)
stopped_from p n m l ls None e h more =
    let same : n ≡ m = some_is n m h in
    record { front = []; rest = l ∷ ls; parts = refl; number_is = omega (arith, same); said = []; are = tt; place = p; fit = refl; stops = says_none p l e }
stopped_from p n m l ls (Some q) e h more =
    let k = moves_on p q l e in
    let s = more q h in
    record {
      front = l ∷ s.front;
      rest = s.rest;
      parts = ap (λ (x : List (List ℕ)). l ∷ x) s.parts;
      number_is = omega (arith, s.number_is);
      said = k.says ∷ s.said;
      are = (k.is, s.are);
      place = s.place;
      fit = ap (λ (o : Option Place). o >>= λ x. leads x s.said) k.moves ∙ s.fit;
      stops = s.stops;
    }

misfit_found : (p : Place) (n m : ℕ) (ls : List (List ℕ)) → misfit p n ls ≡ Some m → Stopped p n m ls
misfit_found p n m [] e =
    let b = not_behind p n m e in
    record { front = []; rest = []; parts = refl; number_is = omega (arith, b.1); said = []; are = tt; place = p; fit = refl; stops = b.0 }
misfit_found p n m (l ∷ ls) e = stopped_from p n m l ls (next_place p l) refl e (λ q h. misfit_found q (n + 1) m ls h)

pub is_misfit : (ls : List (List ℕ)) (m : ℕ) → misfit start 1 ls ≡ Some m → IsMisfit ls m
is_misfit ls m e =
    let s = misfit_found start 1 m ls e in
    record { front = s.front; rest = s.rest; parts = s.parts; number_is = omega (arith, s.number_is); said = s.said; are = s.are; place = s.place; fit = s.fit; stops = s.stops }

pub misfit_is : (ls : List (List ℕ)) (m : ℕ) → IsMisfit ls m → misfit start 1 ls ≡ Some m
misfit_is ls m h =
    let same : 1 + length h.front ≡ m = omega (arith, h.number_is) in
    ap (misfit start 1) h.parts ∙ misfit_only start h.place 1 h.front h.rest h.said h.are h.fit h.stops ∙ ap (λ (k : ℕ). Some k) same

-- ---- why a text is refused

abbrev faulty : List Numbered → Option LoopRefusal
faulty ls = option_map (λ fault. refusals.Name fault.0 fault.1) (first_fault empty ls)

-- lines that fit are refused for a name or a limit
abbrev IsOfLines : LoopRefusal → Type 0
IsOfLines (refusals.Text number) = ⊥
IsOfLines (refusals.Name line kind) = Unit {0}
IsOfLines (refusals.Limit line kind) = Unit {0}
IsOfLines refusals.Memory = ⊥

abbrev IfOfLines : Option LoopRefusal → Type 0
IfOfLines None = Unit {0}
IfOfLines (Some why) = IsOfLines why

name_or_limit : (fault : Option (ℕ × NameKind)) (passed : Option (ℕ × LimitKind)) → IfOfLines (either (option_map (λ f. refusals.Name f.0 f.1) fault) (option_map (λ p. refusals.Limit p.0 p.1) passed))
name_or_limit None None = tt
name_or_limit None (Some p) = tt
name_or_limit (Some f) passed = tt

of_lines : (count : ℕ) (ls : List Numbered) (why : LoopRefusal) → broken count ls ≡ Some why → IsOfLines why
of_lines count ls why e = subst IfOfLines e (name_or_limit (first_fault empty ls) (first_limit count ls))

abbrev then : Option ℕ → Option LoopRefusal → Option LoopRefusal
then number more = either (option_map refusals.Text number) more

is_broken : (ls : List (List ℕ)) (why : LoopRefusal) → misfit start 1 ls ≡ None → broken (length ls) (numbered ls) ≡ Some why → IsBroken ls why
is_broken ls why fit e = record { numbered = numbered ls; lines = has_lines ls fit; wrong = e }

of_fitting : (ls : List (List ℕ)) (why : LoopRefusal) → misfit start 1 ls ≡ None → broken (length ls) (numbered ls) ≡ Some why → IsRefused ls why
of_fitting ls (refusals.Text number) fit e = absurd (of_lines (length ls) (numbered ls) (refusals.Text number) e)
of_fitting ls (refusals.Name line kind) fit e = is_broken ls (refusals.Name line kind) fit e
of_fitting ls (refusals.Limit line kind) fit e = is_broken ls (refusals.Limit line kind) fit e
of_fitting ls refusals.Memory fit e = is_broken ls refusals.Memory fit e

refused_from : (ls : List (List ℕ)) (why : LoopRefusal) (o : Option ℕ) → misfit start 1 ls ≡ o → then o (broken (length ls) (numbered ls)) ≡ Some why → IsRefused ls why
refused_from ls why None fit e = of_fitting ls why fit e
refused_from ls why (Some number) fit e = subst (IsRefused ls) (some_is (refusals.Text number) why e) (is_misfit ls number fit)

found_why : (ls : List (List ℕ)) (why : LoopRefusal) → refusal ls ≡ Some why → IsRefused ls why
found_why ls why e = refused_from ls why (misfit start 1 ls) refl e

broken_is : (ls : List (List ℕ)) (why : LoopRefusal) → IsBroken ls why → refusal ls ≡ Some why
broken_is ls why h =
    ap (λ (o : Option ℕ). then o (broken (length ls) (numbered ls))) (lines_fit ls h.numbered h.lines)
    ∙ ap (broken (length ls)) (lines_same ls h.numbered h.lines) ∙ h.wrong

only_why : (ls : List (List ℕ)) (why : LoopRefusal) → IsRefused ls why → refusal ls ≡ Some why
only_why ls (refusals.Text number) h = ap (λ (o : Option ℕ). then o (broken (length ls) (numbered ls))) (misfit_is ls number h)
only_why ls (refusals.Name line kind) h = broken_is ls (refusals.Name line kind) h
only_why ls (refusals.Limit line kind) h = broken_is ls (refusals.Limit line kind) h
only_why ls refusals.Memory h = broken_is ls refusals.Memory h

pub why_is : (ls : List (List ℕ)) (why : LoopRefusal) → refusal ls ≡ Some why ↔ IsRefused ls why
why_is ls why = (found_why ls why, only_why ls why)

-- ---- the nest of a text

found_nest : (ls : List (List ℕ)) (nest : Nest) → IsRead ls nest → HasNest ls nest
found_nest ls nest read =
    let a = either_none (option_map refusals.Text (misfit start 1 ls)) (broken (length ls) (numbered ls)) read.accepted in
    record { numbered = numbered ls; lines = has_lines ls (map_none refusals.Text (misfit start 1 ls) a.0); sound = a.1; made = read.of_text }

only_nest : (ls : List (List ℕ)) (nest : Nest) → HasNest ls nest → IsRead ls nest
only_nest ls nest h =
    let same = lines_same ls h.numbered h.lines in
    record {
      accepted = ap (λ (o : Option ℕ). then o (broken (length ls) (numbered ls))) (lines_fit ls h.numbered h.lines) ∙ ap (broken (length ls)) same ∙ h.sound;
      of_text = subst (λ (l : List Numbered). IsNestOf l nest) (sym same) h.made;
    }

pub nest_is : (ls : List (List ℕ)) (nest : Nest) → IsRead ls nest ↔ HasNest ls nest
nest_is ls nest = (found_nest ls nest, only_nest ls nest)

-- ---- a reader's answer

pub answer_is : (ls : List (List ℕ)) (answer : Result Nest LoopRefusal) → Answers ls answer ↔ IsAnswer ls answer
answer_is ls (Ok nest) = nest_is ls nest
answer_is ls (Err (refusals.Text line)) = why_is ls (refusals.Text line)
answer_is ls (Err (refusals.Name line kind)) = why_is ls (refusals.Name line kind)
answer_is ls (Err (refusals.Limit line kind)) = why_is ls (refusals.Limit line kind)
answer_is ls (Err refusals.Memory) = ((λ h. tt), (λ h. tt))

-- ---- a text has one answer

pub one_nest_of : (ls : List (List ℕ)) (a b : Nest) → HasNest ls a → HasNest ls b → a ≡ b
one_nest_of ls a b h k = one_nest (numbered ls) a b (only_nest ls a h).of_text (only_nest ls b k).of_text

pub one_reason : (ls : List (List ℕ)) (a b : LoopRefusal) → IsRefused ls a → IsRefused ls b → a ≡ b
one_reason ls a b h k = some_is a b (sym (only_why ls a h) ∙ only_why ls b k)

pub not_both : (ls : List (List ℕ)) (nest : Nest) (why : LoopRefusal) → HasNest ls nest → IsRefused ls why → ⊥
not_both ls nest why h k = no_value (sym (only_nest ls nest h).accepted ∙ only_why ls why k)
