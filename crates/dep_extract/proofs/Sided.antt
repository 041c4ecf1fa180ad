-- The values of both sides' variables in one list.
use Rattle.std.proofs.Common.{◌≡◌, ℕ, ℤ, pos, Bool, true, false, ◌&&◌, List, [], ◌∷◌, ◌++◌, refl, sym, ap, ◌∙◌}
use Rattle.std.specs.Prelude.{◌==◌, if◌then◌else◌}
use Rattle.loop_core.specs.declared.nest.Side.{Side}
use Rattle.loop_core.specs.declared.nest.Side.TheVariants.{Own, First, Second}
use Rattle.loop_core.specs.Binding.{Binding, same_side}
use Rattle.dep_extract.proofs.Worth.{on_line}

-- the nest's own variables, put on a side
abbrev moved : Side → Side → ℕ → ℤ → List Binding → List Binding
moved to Own line z rest = record { var = record { line = line; side = to }; value = z } ∷ rest
moved to First line z rest = rest
moved to Second line z rest = rest

abbrev pub sided : Side → List Binding → List Binding
sided to [] = []
sided to (b ∷ bs) = moved to b.var.side b.var.line b.value (sided to bs)

and_false : (s : Bool) → (s && false) ≡ false
and_false true = refl
and_false false = refl

-- a binding on another side isn't looked at
skipped : (s : Bool) (z y : ℤ) → (if s && false then z else y) ≡ y
skipped s z y = ap (λ b. if b then z else y) (and_false s)

second_keeps_none : (bs : List Binding) (line : ℕ) → on_line (sided Second bs) First line ≡ pos 0
second_keeps_none [] line = refl
second_keeps_none (b ∷ bs) line = by b.var.side (second_keeps_none bs line)
  where
    by : (s : Side) → on_line (sided Second bs) First line ≡ pos 0 → on_line (moved Second s b.var.line b.value (sided Second bs)) First line ≡ pos 0
    by Own rest = skipped (b.var.line == line) b.value (on_line (sided Second bs) First line) ∙ rest
    by First rest = rest
    by Second rest = rest

second_is : (bs : List Binding) (line : ℕ) → on_line (sided Second bs) Second line ≡ on_line bs Own line
second_is [] line = refl
second_is (b ∷ bs) line = by b.var.side (second_is bs line)
  where
    by : (s : Side) → on_line (sided Second bs) Second line ≡ on_line bs Own line
        → on_line (moved Second s b.var.line b.value (sided Second bs)) Second line ≡ (if (b.var.line == line) && same_side s Own then b.value else on_line bs Own line)
    by Own rest = ap (λ y. if (b.var.line == line) && true then b.value else y) rest
    by First rest = rest ∙ sym (skipped (b.var.line == line) b.value (on_line bs Own line))
    by Second rest = rest ∙ sym (skipped (b.var.line == line) b.value (on_line bs Own line))

pub of_second : (bs es : List Binding) (line : ℕ) → on_line (sided First bs ++ sided Second es) Second line ≡ on_line es Own line
of_second [] es line = second_is es line
of_second (b ∷ bs) es line = by b.var.side (of_second bs es line)
  where
    by : (s : Side) → on_line (sided First bs ++ sided Second es) Second line ≡ on_line es Own line
        → on_line (moved First s b.var.line b.value (sided First bs) ++ sided Second es) Second line ≡ on_line es Own line
    by Own rest = skipped (b.var.line == line) b.value (on_line (sided First bs ++ sided Second es) Second line) ∙ rest
    by First rest = rest
    by Second rest = rest

pub of_first : (bs es : List Binding) (line : ℕ) → on_line (sided First bs ++ sided Second es) First line ≡ on_line bs Own line
of_first [] es line = second_keeps_none es line
of_first (b ∷ bs) es line = by b.var.side (of_first bs es line)
  where
    by : (s : Side) → on_line (sided First bs ++ sided Second es) First line ≡ on_line bs Own line
        → on_line (moved First s b.var.line b.value (sided First bs) ++ sided Second es) First line ≡ (if (b.var.line == line) && same_side s Own then b.value else on_line bs Own line)
    by Own rest = ap (λ y. if (b.var.line == line) && true then b.value else y) rest
    by First rest = rest ∙ sym (skipped (b.var.line == line) b.value (on_line bs Own line))
    by Second rest = rest ∙ sym (skipped (b.var.line == line) b.value (on_line bs Own line))
