-- A text, cut into the lines that have words.
use Rattle.std.specs.Prelude.{◌≡◌, ℕ, List, length, Option, Some, None, Result, Ok, Err}
use Rattle.loop_lines.specs.declared.place.Place.{Place}
use Rattle.loop_lines.specs.Fitting.{misfit, start}
use Rattle.loop_syntax.specs.declared.refusal.LoopRefusal.{LoopRefusal}
use Rattle.loop_syntax.specs.declared.refusal.LoopRefusal.TheVariants as refusals
use Rattle.loop_syntax.specs.declared.numbered.Numbered.{Numbered}
use Rattle.loop_syntax.specs.declared.numbered.Cut.{Cut}
use Rattle.loop_syntax.specs.Numbered.{numbered}

-- a line that can stand at its place leads to the next one, and the lines kept are these; else its number is answered
abbrev pub IsKept : ℕ → Option Place → List Numbered → List Numbered → Result Place LoopRefusal → Type 0
IsKept number next lines kept (Ok place) = (next ≡ Some place) × (kept ≡ lines)
IsKept number next lines kept (Err refusals.Memory) = Unit {0}
IsKept number next lines kept (Err why) = (next ≡ None) × (why ≡ refusals.Text number)

-- the lines of a text that fit
pub record IsWhole (ls : List (List ℕ)) (cut : Cut) : Type 0 where
  pub fits : misfit start 1 ls ≡ None
  pub lines : cut.lines ≡ numbered ls
  pub count : cut.count ≡ length ls

-- the least line that doesn't fit
abbrev pub IsBad : List (List ℕ) → LoopRefusal → Type 0
IsBad ls (refusals.Text number) = misfit start 1 ls ≡ Some number
IsBad ls refusals.Memory = Unit {0}
IsBad ls _ = ⊥

abbrev pub IsCut : List (List ℕ) → Result Cut LoopRefusal → Type 0
IsCut ls (Ok cut) = IsWhole ls cut
IsCut ls (Err why) = IsBad ls why
