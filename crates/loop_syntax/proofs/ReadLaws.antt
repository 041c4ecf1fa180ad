-- Why a text is refused, and what holds where it isn't.
use Rattle.std.proofs.Common.{◌≡◌, ℕ, List, ◌∷◌, length, Option, Some, None, refl, sym, subst, ◌∙◌}
use Rattle.std.specs.Option.{option_map}
use Rattle.loop_core.specs.declared.nest.Nest.{Nest}
use Rattle.loop_lines.specs.Words.{either}
use Rattle.loop_lines.specs.Fitting.{misfit, start}
use Rattle.loop_syntax.specs.declared.refusal.LimitKind.{LimitKind}
use Rattle.loop_syntax.specs.declared.refusal.NameKind.{NameKind}
use Rattle.loop_syntax.specs.declared.refusal.LoopRefusal.{LoopRefusal}
use Rattle.loop_syntax.specs.declared.refusal.LoopRefusal.TheVariants as refusals
use Rattle.loop_syntax.specs.declared.numbered.Numbered.{Numbered}
use Rattle.loop_syntax.specs.declared.numbered.Cut.{Cut}
use Rattle.loop_syntax.specs.Numbered.{numbered}
use Rattle.loop_syntax.specs.Scope.{Scope, empty, scope_after}
use Rattle.loop_syntax.specs.NameRules.{line_fault, first_fault}
use Rattle.loop_syntax.specs.Counts.{first_limit}
use Rattle.loop_syntax.specs.Stages.{Above, AreNested, AreFew}
use Rattle.loop_syntax.specs.Cutting.{IsWhole, IsBad}
use Rattle.loop_syntax.specs.TextNest.{IsNestOf, broken, refusal, Refused, IsRead}
use Rattle.loop_syntax.proofs.FewLaws.{either_none, then_none, few}
use Rattle.loop_syntax.proofs.StageLaws.{nested}

-- a text whose lines don't fit
pub badly_cut : (ls : List (List ℕ)) (why : LoopRefusal) → IsBad ls why → Refused ls why
badly_cut ls (refusals.Text line) h = rw h refl
badly_cut ls (refusals.Name line kind) h = absurd h
badly_cut ls (refusals.Limit line kind) h = absurd h
badly_cut ls refusals.Memory h = tt

-- what is wrong with a text whose lines fit
pub whole_refusal : (ls : List (List ℕ)) (cut : Cut) → IsWhole ls cut → refusal ls ≡ broken cut.count cut.lines
whole_refusal ls cut h = rw (h.fits, h.count, h.lines) refl

pub badly_made : (ls : List (List ℕ)) (cut : Cut) (o : Option LoopRefusal) (why : LoopRefusal) → IsWhole ls cut → o ≡ broken cut.count cut.lines → o ≡ Some why → Refused ls why
badly_made ls cut o (refusals.Text line) h e is = whole_refusal ls cut h ∙ sym e ∙ is
badly_made ls cut o (refusals.Name line kind) h e is = whole_refusal ls cut h ∙ sym e ∙ is
badly_made ls cut o (refusals.Limit line kind) h e is = whole_refusal ls cut h ∙ sym e ∙ is
badly_made ls cut o refusals.Memory h e is = tt

pub map_none : {A B : Type 0} (f : A → B) (o : Option A) → option_map f o ≡ None → o ≡ None
map_none f None e = refl
map_none f (Some x) e = absurd cc

abbrev pub misfits : List (List ℕ) → Option LoopRefusal
misfits ls = option_map refusals.Text (misfit start 1 ls)

abbrev pub faults : List (List ℕ) → Option LoopRefusal
faults ls = option_map (λ fault. refusals.Name fault.0 fault.1) (first_fault empty (numbered ls))

abbrev pub limits : List (List ℕ) → Option LoopRefusal
limits ls = option_map (λ passed. refusals.Limit passed.0 passed.1) (first_limit (length ls) (numbered ls))

-- what a text that isn't refused passes
pub record Passes (ls : List (List ℕ)) : Type 0 where
  pub fits : misfit start 1 ls ≡ None
  pub named : first_fault empty (numbered ls) ≡ None
  pub limited : first_limit (length ls) (numbered ls) ≡ None

pub passes_all : (ls : List (List ℕ)) → refusal ls ≡ None → Passes ls
passes_all ls e =
    let a = either_none (misfits ls) (either (faults ls) (limits ls)) e in
    let b = either_none (faults ls) (limits ls) a.1 in
    record {
      fits = map_none refusals.Text (misfit start 1 ls) a.0;
      named = map_none (λ (fault : ℕ × NameKind). refusals.Name fault.0 fault.1) (first_fault empty (numbered ls)) b.0;
      limited = map_none (λ (passed : ℕ × LimitKind). refusals.Limit passed.0 passed.1) (first_limit (length ls) (numbered ls)) b.1;
    }

pub fits : (ls : List (List ℕ)) → refusal ls ≡ None → AreNested Above (numbered ls)
fits ls e = nested start 1 ls (passes_all ls e).fits

pub is_few : (ls : List (List ℕ)) → refusal ls ≡ None → AreFew empty (numbered ls)
is_few ls e = few ls (passes_all ls e).limited

-- the nest of the lines that were cut
pub is_read : (ls : List (List ℕ)) (cut : Cut) (lines : List Numbered) (o : Option LoopRefusal) (nest : Nest) → IsWhole ls cut → o ≡ broken cut.count cut.lines → o ≡ None → lines ≡ cut.lines → IsNestOf lines nest
    → IsRead ls nest
is_read ls cut lines o nest h e none is made = record {
  accepted = whole_refusal ls cut h ∙ sym e ∙ none;
  of_text = subst (λ (l : List Numbered). IsNestOf l nest) (is ∙ h.lines) made;
}

pub whole_nested : (ls : List (List ℕ)) (cut : Cut) → IsWhole ls cut → refusal ls ≡ None → AreNested Above cut.lines
whole_nested ls cut h e = subst (λ (l : List Numbered). AreNested Above l) (sym h.lines) (fits ls e)

pub whole_few : (ls : List (List ℕ)) (cut : Cut) → IsWhole ls cut → refusal ls ≡ None → AreFew empty cut.lines
whole_few ls cut h e = subst (λ (l : List Numbered). AreFew empty l) (sym h.lines) (is_few ls e)

-- a text that isn't refused breaks no rule on names
pub faultless : (ls : List (List ℕ)) → refusal ls ≡ None → first_fault empty (numbered ls) ≡ None
faultless ls e = (passes_all ls e).named

-- lines that break no rule on names: the first breaks none, nor do those after it
pub fine_first : (s : Scope) (l : Numbered) (ls : List Numbered) → first_fault s (l ∷ ls) ≡ None → (line_fault s l.line ≡ None) × (first_fault (scope_after s l) ls ≡ None)
fine_first s l ls e = then_none l.number (line_fault s l.line) (first_fault (scope_after s l) ls) e
