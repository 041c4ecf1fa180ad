-- Where a worker stands in a row.
use Rattle.std.specs.Prelude.{◌≡◌, ℕ, ℤ, pos, ◌+◌, ◌<◌, ◌^◌, Bool, if◌then◌else◌, List, ◌∷◌, ◌++◌, length, map}
use Rattle.loop_core.specs.Instances.{Instance, instances}
use Rattle.loop_core.specs.Shape.{is_target}
use Rattle.core_law.specs.Numbers.{first}
use Rattle.core_law.specs.Sequential.{kept}
use Rattle.core_law.specs.Scripts.{Action, numbered, begun}
use Rattle.core_rows.specs.Deeds.{Deed}
use Rattle.core_rows.specs.Replay.{instances_after}
use Rattle.core_rows.specs.Progress.{begun_row, caught_up}
use Rattle.core_nest.specs.Nested.{deed_of}
use Rattle.core_value.specs.Taken.{flagged}
use Rattle.core_machine.specs.declared.work.Work.{Work}
use Rattle.core_machine.specs.FitWork.{IsFitWork, plain}
use Rattle.done_words.specs.declared.view.View.{View}
use Rattle.done_words.specs.Views.{registers_of}
use Rattle.done_words.specs.Seats.{view, work_of, IsOn}
use Rattle.p2p_exec.specs.declared.run.Run.{Run}
use Rattle.p2p_exec.specs.Left.{IsLeft}

-- these actions of a row are left, of which the first begins the row where none of it was made; others follow
abbrev pub to_come : Bool → List Action → List Action → List Action
to_come begins actions tail = (if begins then begun actions else actions) ++ tail

abbrev pub deeds : Work → List Instance → List Deed
deeds w ss = map (deed_of w.nest w.values) ss

-- the actions of these instances of the row i, which come after the earlier ones
abbrev pub acts : Work → ℕ → List Instance → List Instance → List Action
acts w i earlier ss = numbered (first (plain w) i + length earlier) (instances_after 16 (deeds w earlier) (deeds w ss))

-- The worker k stands in the row i before these instances: their actions are left, and then the tail. What its row has
-- read leads through the earlier instances to these locals.
pub record StandsBefore (w : Work) (k i : ℕ) (tail : List Action) (v : View) (locals : List ℤ) (ss : List Instance) : Type 0 where
  pub earlier : List Instance
  pub row_is : instances w.arrays w.nest (pos i) ≡ earlier ++ ss
  pub begins : Bool
  pub left : IsLeft w k v (to_come begins (acts w i earlier ss) tail)
  pub caught : caught_up (kept begins (registers_of v)) (deeds w earlier) (begun_row 16) ≡ record { locals = locals; used = length (kept begins (registers_of v)) }

-- the run is one over this work
pub record IsOf (w : Work) (x : Run) : Type 0 where
  pub on : IsOn x.seat.now x.board.now
  pub work : work_of x.board.now ≡ w
  pub values : x.values.now ≡ w.values
  pub written : flagged x.written.now ≡ is_target w.nest

-- a fit work whose sizes fit 32 bits, with a row of it
pub record IsRow (w : Work) (i : ℕ) : Type 0 where
  pub fit : IsFitWork w
  pub rows : w.arrays.n < 2 ^ 32
  pub entries : w.arrays.nnz < 2 ^ 32
  pub here : i < w.arrays.n

-- nothing but the seat's view and the locals changes
pub record IsSameRun (x y : Run) : Type 0 where
  pub seat : y.seat.ghost_name ≡ x.seat.ghost_name
  pub board : y.board.now ≡ x.board.now
  pub values : y.values.now ≡ x.values.now
  pub written : y.written.now ≡ x.written.now

-- the run stands before the instance, and others may follow
abbrev pub MayVisit : Run → Instance → Type 0
MayVisit x s = (w : Work) × (k : ℕ) × (i : ℕ) × (tail : List Action) × (more : List Instance) × IsRow w i × IsOf w x × StandsBefore w k i tail (view x.seat.now) x.locals (s ∷ more)

-- wherever the run stands before some instances of which the first is this one, it comes to stand before the others
abbrev pub Visits : Run → Instance → Run → Type 0
Visits x s y =
    IsSameRun x y × ((w : Work) (k i : ℕ) (tail : List Action) (more : List Instance) → IsRow w i → IsOf w x → StandsBefore w k i tail (view x.seat.now) x.locals (s ∷ more)
    → IsOf w y × StandsBefore w k i tail (view y.seat.now) y.locals more)
