-- The canonical texts of a nest's lines are read as that nest, with its lines numbered again.
use Rattle.std.proofs.Common.{◌≡◌, ℕ, ◌≤◌, true, false, nat_lt, nat_le, List, [], ◌∷◌, map, length, Option, None, refl, sym, ap, subst, ◌∙◌, arith}
use Rattle.std.specs.Option.{option_map}
use Rattle.std.specs.List.{filter}
use Rattle.std.proofs.lemmas.Bool.Decides.{nat_tests}
use Rattle.text_base.specs.Lines.{lines}
use Rattle.loop_core.specs.declared.nest.Nest.{Nest}
use Rattle.loop_lines.specs.Words.{either}
use Rattle.loop_lines.specs.Fitting.{start}
use Rattle.loop_syntax.specs.declared.refusal.LimitKind.{LimitKind}
use Rattle.loop_syntax.specs.declared.refusal.NameKind.{NameKind}
use Rattle.loop_syntax.specs.declared.refusal.LoopRefusal.TheVariants as refusals
use Rattle.loop_syntax.specs.declared.numbered.Numbered.{Numbered}
use Rattle.loop_syntax.specs.Numbered.{numbered}
use Rattle.loop_syntax.specs.Scope.{empty}
use Rattle.loop_syntax.specs.NameRules.{first_fault}
use Rattle.loop_syntax.specs.Counts.{targets, first_passed, is_within, lines_limit, first_limit}
use Rattle.loop_syntax.specs.TextNest.{IsNestOf, refusal, IsRead}
use Rattle.loop_laws.specs.ShownText.{shown_lines, unlines, AreShort, place}
use Rattle.loop_laws.specs.Renumbered.{renumbered}
use Rattle.loop_syntax.proofs.FewLaws.{Below, below, either_none, short_of}
use Rattle.loop_syntax.proofs.ReadLaws.{faults, limits, Passes, passes_all}
use Rattle.loop_laws.proofs.BackText.{are_showable, lines_back, counted_back, shown_length, numbered_length}
use Rattle.loop_laws.proofs.BackFits.{leads_behind, fits_back}
use Rattle.loop_laws.proofs.BackNumbers.{with_number, numbers_are, place_zero}
use Rattle.loop_laws.proofs.BackRules.{no_fault, targets_with, none_passed}
use Rattle.loop_laws.proofs.BackNest.{nest_with}

-- the canonical texts of lines, and the number of each among them
abbrev texts : List (List ℕ) → List (List ℕ)
texts ls = shown_lines 0 (numbered ls)

abbrev anew : List (List ℕ) → ℕ → ℕ
anew ls = place (numbered ls)

lines_are : (ls : List (List ℕ)) → AreShort (texts ls) → numbered (texts ls) ≡ map (with_number (anew ls)) (numbered ls)
lines_are ls short = counted_back 1 0 (numbered ls) (are_showable 1 ls) short ∙ sym (numbers_are ls)

-- ---- a text that passes all isn't refused

accepted : (ls : List (List ℕ)) → Passes ls → refusal ls ≡ None
accepted ls p =
    ap (λ (x : Option ℕ). either (option_map refusals.Text x) (either (faults ls) (limits ls))) p.fits
    ∙ ap (λ (x : Option (ℕ × NameKind)). either (option_map (λ fault. refusals.Name fault.0 fault.1) x) (limits ls)) p.named
    ∙ ap (option_map (λ (passed : ℕ × LimitKind). refusals.Limit passed.0 passed.1)) p.limited

-- ---- limits

all_within : (ls : List Numbered) → Below 401 ls → filter is_within ls ≡ ls
all_within [] h = refl
all_within (l ∷ ls) h =
    let near : nat_le l.number 400 ≡ true = grind (arith, nat_tests, h.0) in
    rw near (ap (λ (more : List Numbered). l ∷ more) (all_within ls h.1))

within : (ls : List (List ℕ)) → length ls ≤ 400 → filter is_within (numbered ls) ≡ numbered ls
within ls h = all_within (numbered ls) (below 1 401 ls (omega (arith, h)))

few_lines : (count : ℕ) → count ≤ 400 → lines_limit count ≡ None
few_lines count h =
    let few : nat_lt 400 count ≡ false = grind (arith, nat_tests, h) in
    rw few refl

-- the first limit that some lines pass
abbrev first_among : List Numbered → Option (ℕ × LimitKind)
first_among ls = first_passed (targets empty ls) empty 0 ls

among_is : (ls : List (List ℕ)) → length ls ≤ 400 → first_limit (length ls) (numbered ls) ≡ either (first_among (numbered ls)) (lines_limit (length ls))
among_is ls h = ap (λ (some : List Numbered). either (first_passed (targets empty (numbered ls)) empty 0 some) (lines_limit (length ls))) (within ls h)

among_with : (f : ℕ → ℕ) (ls : List Numbered) → first_among ls ≡ None → first_among (map (with_number f) ls) ≡ None
among_with f ls e =
    ap (λ (written : List ℕ). first_passed written empty 0 (map (with_number f) ls)) (targets_with f empty ls) ∙ none_passed (targets empty ls) f empty ls e

limits_back : (ls : List (List ℕ)) → AreShort (texts ls) → first_limit (length ls) (numbered ls) ≡ None → first_limit (length (texts ls)) (numbered (texts ls)) ≡ None
limits_back ls short e =
    let all = first_passed (targets empty (numbered ls)) empty 0 (filter is_within (numbered ls)) in
    let few : length ls ≤ 400 = short_of (length ls) (either_none all (lines_limit (length ls)) e).1 in
    let old = either_none (first_among (numbered ls)) (lines_limit (length ls)) (sym (among_is ls few) ∙ e) in
    let new : length (texts ls) ≤ 400 = omega (arith, few, shown_length 0 (numbered ls), numbered_length 1 ls) in
    among_is (texts ls) new
    ∙ ap (λ (x : Option (ℕ × LimitKind)). either x (lines_limit (length (texts ls)))) (ap first_among (lines_are ls short) ∙ among_with (anew ls) (numbered ls) old.0)
    ∙ few_lines (length (texts ls)) new

-- ---- the law

passes_back : (ls : List (List ℕ)) → AreShort (texts ls) → Passes ls → Passes (texts ls)
passes_back ls short p = record {
  fits = fits_back start 1 0 (numbered ls) (leads_behind start 1 ls p.fits) (are_showable 1 ls) short;
  named = ap (first_fault empty) (lines_are ls short) ∙ no_fault (anew ls) empty (numbered ls) p.named;
  limited = limits_back ls short p.limited;
}

pub shown_reads_back : (ls : List (List ℕ)) (nest : Nest) → IsRead ls nest → AreShort (shown_lines 0 (numbered ls))
    → (lines (unlines (shown_lines 0 (numbered ls))) ≡ shown_lines 0 (numbered ls)) × IsRead (shown_lines 0 (numbered ls)) (renumbered (place (numbered ls)) nest)
shown_reads_back ls nest read short =
    let same = nest_with (anew ls) (place_zero ls) (numbered ls) nest read.of_text in
    let P : List Numbered → Type 0 = λ all. IsNestOf all (renumbered (anew ls) nest) in
    (lines_back 0 (numbered ls) (are_showable 1 ls), record { accepted = accepted (texts ls) (passes_back ls short (passes_all ls read.accepted)); of_text = subst P (sym (lines_are ls short)) same })

-- the same of a text that has these lines
pub text_reads_back : (ls : List (List ℕ)) (nest : Nest) (text : List ℕ) → text ≡ unlines (shown_lines 0 (numbered ls)) → IsRead ls nest → AreShort (lines text)
    → IsRead (lines text) (renumbered (place (numbered ls)) nest)
text_reads_back ls nest text is read short =
    let whole : lines text ≡ texts ls = ap lines is ∙ lines_back 0 (numbered ls) (are_showable 1 ls) in
    let P : List (List ℕ) → Type 0 = λ all. AreShort all in
    let Q : List (List ℕ) → Type 0 = λ all. IsRead all (renumbered (anew ls) nest) in
    subst Q (sym whole) (shown_reads_back ls nest read (subst P whole short)).1
