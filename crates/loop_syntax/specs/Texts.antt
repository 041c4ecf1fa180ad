-- What a text is, by the grammar of its lines.
use Rattle.std.specs.Prelude.{◌≡◌, ℕ, ◌+◌, List, [], ◌∷◌, ◌++◌, length, Option, Some, None, Result, Ok, Err}
use Rattle.loop_core.specs.declared.nest.Nest.{Nest}
use Rattle.loop_lines.specs.declared.line.Line.{Line}
use Rattle.loop_lines.specs.declared.place.Place.{Place}
use Rattle.loop_lines.specs.declared.place.Place.TheVariants as places
use Rattle.loop_lines.specs.Reading.{◌>>=◌}
use Rattle.loop_lines.specs.Fitting.{moved, start}
use Rattle.loop_lines.specs.TextLines.{IsTextLine}
use Rattle.loop_syntax.specs.declared.refusal.LoopRefusal.{LoopRefusal}
use Rattle.loop_syntax.specs.declared.refusal.LoopRefusal.TheVariants as refusals
use Rattle.loop_syntax.specs.declared.numbered.Numbered.{Numbered}
use Rattle.loop_syntax.specs.Numbered.{before}
use Rattle.loop_syntax.specs.TextNest.{broken, IsNestOf}

-- what each line says, by the grammar; a line without words says nothing
abbrev pub AreSaid : List (List ℕ) → List (Option Line) → Type 0
AreSaid [] [] = Unit {0}
AreSaid (l ∷ ls) (s ∷ said) = IsTextLine l s × AreSaid ls said
AreSaid _ _ = ⊥

-- where what lines say leads from a place, and none where one of them can't stand
abbrev pub leads : Place → List (Option Line) → Option Place
leads place [] = Some place
leads place (s ∷ said) = moved place s >>= λ next. leads next said

-- the lines that say something, with numbers from n on
abbrev pub counted : ℕ → List (Option Line) → List Numbered
counted n [] = []
counted n (s ∷ said) = before n s (counted (n + 1) said)

-- all lines of a text say what can stand there, up to the loop's end; these are those that say something
pub record HasLines (ls : List (List ℕ)) (numbered : List Numbered) : Type 0 where
  pub said : List (Option Line)
  pub are : AreSaid ls said
  pub fit : leads start said ≡ Some places.Behind
  pub lines : numbered ≡ counted 1 said

-- nothing that the next line says can stand at the place; or no line is left, and the loop isn't ended
abbrev pub Stops : Place → List (List ℕ) → Type 0
Stops place [] = place ≡ places.Behind → ⊥
Stops place (l ∷ ls) = (s : Option Line) → IsTextLine l s → moved place s ≡ None

-- the least line that doesn't fit: those before it say what can stand there
pub record IsMisfit (ls : List (List ℕ)) (number : ℕ) : Type 0 where
  pub front : List (List ℕ)
  pub rest : List (List ℕ)
  pub parts : ls ≡ front ++ rest
  pub number_is : number ≡ length front + 1
  pub said : List (Option Line)
  pub are : AreSaid front said
  pub place : Place
  pub fit : leads start said ≡ Some place
  pub stops : Stops place rest

-- the lines of a text fit, and are wrong so
pub record IsBroken (ls : List (List ℕ)) (why : LoopRefusal) : Type 0 where
  pub numbered : List Numbered
  pub lines : HasLines ls numbered
  pub wrong : broken (length ls) numbered ≡ Some why

-- why a text is no nest
abbrev pub IsRefused : List (List ℕ) → LoopRefusal → Type 0
IsRefused ls (refusals.Text number) = IsMisfit ls number
IsRefused ls why = IsBroken ls why

-- the nest that a text is
pub record HasNest (ls : List (List ℕ)) (nest : Nest) : Type 0 where
  pub numbered : List Numbered
  pub lines : HasLines ls numbered
  pub sound : broken (length ls) numbered ≡ None
  pub made : IsNestOf numbered nest

abbrev pub IsAnswer : List (List ℕ) → Result Nest LoopRefusal → Type 0
IsAnswer ls (Ok nest) = HasNest ls nest
IsAnswer ls (Err refusals.Memory) = Unit {0}
IsAnswer ls (Err why) = IsRefused ls why
