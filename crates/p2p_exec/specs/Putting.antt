-- What an instance leaves once its reads were made.
use Rattle.std.specs.Prelude.{◌≡◌, ℕ, ℤ, pos, ◌+◌, Bool, List, [], ◌∷◌, ◌++◌, length}
use Rattle.loop_core.specs.declared.effect.Effect.{Effect}
use Rattle.loop_core.specs.Instances.{Instance, instances}
use Rattle.core_law.specs.Numbers.{first}
use Rattle.core_law.specs.Sequential.{kept}
use Rattle.core_law.specs.Scripts.{Action, write_of}
use Rattle.core_rows.specs.Locals.{kept_by}
use Rattle.core_rows.specs.Replay.{target_of, instance_of}
use Rattle.core_rows.specs.Progress.{begun_row, caught_up}
use Rattle.core_nest.specs.Nested.{effect_of, deed_of}
use Rattle.core_machine.specs.declared.work.Work.{Work}
use Rattle.core_machine.specs.FitWork.{plain}
use Rattle.done_words.specs.declared.view.View.{View}
use Rattle.done_words.specs.Views.{registers_of}
use Rattle.done_words.specs.Seats.{view}
use Rattle.p2p_exec.specs.declared.run.Run.{Run}
use Rattle.p2p_exec.specs.Left.{IsLeft}
use Rattle.p2p_exec.specs.Rows.{to_come, deeds, acts, StandsBefore, IsOf, IsRow, IsSameRun}

-- The worker k has made the reads of the instance s of the row i: its write is left where it has one, and then the actions
-- of those after it. Over what the row has read it has this value, with which it leads to the next locals.
pub record StandsInside (w : Work) (k i : ℕ) (tail : List Action) (v : View) (locals : List ℤ) (s : Instance) (ss : List Instance) (word : ℤ) : Type 0 where
  pub earlier : List Instance
  pub row_is : instances w.arrays w.nest (pos i) ≡ earlier ++ s ∷ ss
  pub begins : Bool
  pub left : IsLeft w k v (to_come begins (write_of (first (plain w) i + length earlier) (target_of (effect_of s.effect)) ++ acts w i (earlier ++ s ∷ []) ss) tail)
  pub value : (instance_of 16 (deeds w earlier) (deed_of w.nest w.values s)).value (kept begins (registers_of v)) ≡ word
  pub caught : caught_up (kept begins (registers_of v)) (deeds w (earlier ++ s ∷ [])) (begun_row 16)
      ≡ record { locals = kept_by (effect_of s.effect) locals word; used = length (kept begins (registers_of v)) }

abbrev pub MayPut : Run → Effect → ℤ → Type 0
MayPut x effect word =
    (w : Work) × (k : ℕ) × (i : ℕ) × (tail : List Action) × (s : Instance) × (more : List Instance) × IsRow w i × IsOf w x × (s.effect ≡ effect)
    × StandsInside w k i tail (view x.seat.now) x.locals s more word

-- wherever the run stands inside an instance of this effect, it comes to stand before those after it
abbrev pub Puts : Run → Effect → ℤ → Run → Type 0
Puts x effect word y =
    IsSameRun x y × ((w : Work) (k i : ℕ) (tail : List Action) (s : Instance) (more : List Instance) → IsRow w i → IsOf w x → s.effect ≡ effect
    → StandsInside w k i tail (view x.seat.now) x.locals s more word → IsOf w y × StandsBefore w k i tail (view y.seat.now) y.locals more)
