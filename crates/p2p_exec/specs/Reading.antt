-- What the reads of a formula leave.
use Rattle.std.specs.Prelude.{◌≡◌, ℕ, ℤ, pos, ◌<◌, ◌^◌, Bool, false, List, [], ◌∷◌, ◌++◌, length, map, Some, slice_get}
use Rattle.loop_core.specs.declared.nest.Nest.{Nest}
use Rattle.loop_core.specs.declared.place.Place.{Place}
use Rattle.loop_core.specs.Instances.{Formula}
use Rattle.loop_core.specs.Registers.{shared_reads, register_value}
use Rattle.core_law.specs.Sequential.{kept}
use Rattle.core_law.specs.Scripts.{Action, read}
use Rattle.core_nest.specs.Nested.{cell_of}
use Rattle.core_machine.specs.declared.work.Work.{Work}
use Rattle.done_words.specs.Views.{registers_of}
use Rattle.done_words.specs.Seats.{view}
use Rattle.p2p_exec.specs.declared.run.Run.{Run}
use Rattle.p2p_exec.specs.Left.{IsLeft}
use Rattle.p2p_exec.specs.Rows.{to_come, IsOf, IsSameRun}

-- the reads of an instance, by its formula and its number
abbrev pub reads_of : Nest → ℕ → Formula → List Action
reads_of nest g f = map (read false g) (map cell_of (shared_reads nest f))

-- whether the row is yet to begin after these reads
abbrev pub still : {A : Type 0} → Bool → List A → Bool
still begins [] = begins
still begins (a ∷ more) = false

-- the place is a cell's
abbrev pub IsCell : Place → Type 0
IsCell p = (at : ℕ) × (p.at ≡ pos at) × (at < 2 ^ 32)

abbrev pub AreCells : Nest → Formula → Type 0
AreCells nest f = (n : ℕ) (p : Place) → slice_get (shared_reads nest f) n ≡ Some p → IsCell p

-- the reads of the formula are next
abbrev pub MayRead : Run → Formula → Type 0
MayRead x f = (w : Work) × (k : ℕ) × (g : ℕ) × (begins : Bool) × (more : List Action) × (tail : List Action) × IsOf w x × AreCells w.nest f
    × IsLeft w k (view x.seat.now) (to_come begins (reads_of w.nest g f ++ more) tail)

-- they were made, and found these words; over them the formula has this value
pub record HaveRead (w : Work) (k : ℕ) (begins : Bool) (f : Formula) (more tail : List Action) (x y : Run) (word : ℤ) : Type 0 where
  pub own : List ℤ
  pub many : length own ≡ length (shared_reads w.nest f)
  pub value : word ≡ register_value w.nest w.values x.locals f own
  pub left : IsLeft w k (view y.seat.now) (to_come (still begins (shared_reads w.nest f)) more tail)
  pub registers : kept (still begins (shared_reads w.nest f)) (registers_of (view y.seat.now)) ≡ kept begins (registers_of (view x.seat.now)) ++ own

-- wherever the reads of the formula are next, they were made
abbrev pub Reads : Run → Formula → ℤ → Run → Type 0
Reads x f word y =
    IsSameRun x y × (y.locals ≡ x.locals) × ((w : Work) → IsOf w x → IsOf w y)
    × ((w : Work) (k g : ℕ) (begins : Bool) (more tail : List Action) → IsOf w x → AreCells w.nest f
    → IsLeft w k (view x.seat.now) (to_come begins (reads_of w.nest g f ++ more) tail) → HaveRead w k begins f more tail x y word)
