-- A run visits an instance: it makes the reads, and then the write where there is one.
use Rattle.std.proofs.Common.{◌≡◌, ℕ, ◌+◌, ℤ, pos, List, [], ◌∷◌, ◌++◌, length, refl, sym, subst, ◌∙◌}
use Rattle.loop_core.specs.declared.place.Place.{Place}
use Rattle.loop_core.specs.declared.effect.Effect.{Effect}
use Rattle.loop_core.specs.declared.effect.Effect.TheVariants.{Sets, Keeps}
use Rattle.loop_core.specs.Instances.{Instance, instances}
use Rattle.core_law.specs.Numbers.{first}
use Rattle.core_law.specs.Scripts.{Action, write_of}
use Rattle.core_rows.specs.Locals.{kept_by}
use Rattle.core_rows.specs.Replay.{target_of}
use Rattle.core_nest.specs.Nested.{cell_of, effect_of}
use Rattle.core_machine.specs.declared.work.Work.{Work}
use Rattle.core_machine.specs.FitWork.{plain}
use Rattle.done_words.specs.declared.view.View.{View}
use Rattle.done_words.specs.declared.work_seat.WorkSeat.{WorkSeat}
use Rattle.done_words.specs.declared.board.Board.{Board}
use Rattle.done_words.specs.Views as views
use Rattle.done_words.specs.Views.{after_write}
use Rattle.done_words.specs.Seats.{view, IsOn}
use Rattle.p2p_exec.specs.declared.run.Run.{Run}
use Rattle.p2p_exec.specs.Rows.{acts, StandsBefore, IsOf, IsRow, IsSameRun, MayVisit, Visits}
use Rattle.p2p_exec.specs.Reading.{IsCell, MayRead, Reads}
use Rattle.p2p_exec.specs.Putting.{StandsInside, MayPut, Puts}
use Rattle.p2p_exec.proofs.Readings.{of_same, then_same}
use Rattle.p2p_exec.proofs.Standing.{inside, reads_next, may_write, after_keep, after_set}
use Rattle.p2p_exec.proofs.Cells.{stands_there, cells_read, cell_set}

-- the number of the instance, and what its row has to do after its reads
abbrev number : (w : Work) (i : ℕ) (earlier : List Instance) → ℕ
number w i earlier = first (plain w) i + length earlier

abbrev rest : (w : Work) (i : ℕ) (earlier : List Instance) (s : Instance) (more : List Instance) → List Action
rest w i earlier s more = write_of (number w i earlier) (target_of (effect_of s.effect)) ++ acts w i (earlier ++ s ∷ []) more

pub may_value : (x : Run) (s : Instance) → MayVisit x s → MayRead x s.value
may_value x s (w, k, i, tail, more, row, of', h) = (
  w,
  k,
  number w i h.earlier,
  h.begins,
  rest w i h.earlier s more,
  tail,
  of',
  cells_read w i s row (stands_there (instances w.arrays w.nest (pos i)) h.earlier s more h.row_is),
  reads_next w k i tail (view x.seat.now) x.locals s more h,
)

-- once the reads were made the run stands inside the instance
reads_made : (w : Work) (k i : ℕ) (tail : List Action) (x y : Run) (s : Instance) (more : List Instance) (word : ℤ) → IsRow w i → IsOf w x → StandsBefore w k i tail (view x.seat.now) x.locals (s ∷ more) → Reads x s.value word y
    → StandsInside w k i tail (view y.seat.now) y.locals s more word
reads_made w k i tail x y s more word row of' h (same, locals, stays, reads) =
    inside w k i tail x y s more word h locals
    (reads w k (number w i h.earlier) h.begins (rest w i h.earlier s more) tail of'
    (cells_read w i s row (stands_there (instances w.arrays w.nest (pos i)) h.earlier s more h.row_is))
    (reads_next w k i tail (view x.seat.now) x.locals s more h))

pub may_put : (x y : Run) (s : Instance) (word : ℤ) → MayVisit x s → Reads x s.value word y → MayPut y s.effect word
may_put x y s word (w, k, i, tail, more, row, of', h) made =
    (w, k, i, tail, s, more, row, made.2 w of', refl, reads_made w k i tail x y s more word row of' h made)

pub visits : (x y z : Run) (s : Instance) (word : ℤ) → Reads x s.value word y → Puts y s.effect word z → Visits x s z
visits x y z s word made (same, puts) = (
  then_same x y z made.0 same,
  λ w k i tail more row of' h. puts w k i tail s more row (made.2 w of') refl (reads_made w k i tail x y s more word row of' h made),
)

-- what may be put

pub record MaySet (x : Run) (p : Place) (word : ℤ) : Type 0 where
  pub on : IsOn x.seat.now x.board.now
  pub cell : IsCell p
  pub next : views.Writes (view x.seat.now) (cell_of p) word

pub may_set : (x : Run) (effect : Effect) (p : Place) (word : ℤ) → effect ≡ Sets p → MayPut x effect word → MaySet x p word
may_set x effect p word e (w, k, i, tail, s, more, row, of', same, h) =
    let is : s.effect ≡ Sets p = same ∙ e in
    record {
      on = of'.on;
      cell = cell_set w i s p row (stands_there (instances w.arrays w.nest (pos i)) h.earlier s more h.row_is) is;
      next = may_write w k i tail (view x.seat.now) x.locals s more word p row is h;
    }

-- and what it leaves

pub put_set : (x y : Run) (effect : Effect) (p : Place) (word : ℤ) → effect ≡ Sets p → IsSameRun x y → y.locals ≡ x.locals → IsOn y.seat.now y.board.now → view y.seat.now ≡ after_write (view x.seat.now) → Puts x effect word y
put_set x y effect p word e same locals on goes = (
  same,
  λ w k i tail s more row of' is h. (
    of_same w x y same on of',
    subst (λ (v : View). StandsBefore w k i tail v y.locals more) (sym goes)
        (subst (λ (l : List ℤ). StandsBefore w k i tail (after_write (view x.seat.now)) l more) (sym locals) (after_set w k i tail (view x.seat.now) x.locals s more word p (is ∙ e) h)),
  ),
)

pub put_keep : (x y : Run) (effect : Effect) (local : ℕ) (word : ℤ) → effect ≡ Keeps local → IsSameRun x y → y.seat.now ≡ x.seat.now → y.locals ≡ kept_by (effect_of (Keeps local)) x.locals word → Puts x effect word y
put_keep x y effect local word e same seat locals = (
  same,
  λ w k i tail s more row of' is h. (
    of_same w x y same (subst (λ (z : WorkSeat × Board). IsOn z.0 z.1) (λ t. (sym seat t, sym same.board t)) of'.on) of',
    subst (λ (v : View). StandsBefore w k i tail v y.locals more) (λ t. view (sym seat t))
        (subst (λ (l : List ℤ). StandsBefore w k i tail (view x.seat.now) l more) (sym locals) (after_keep w k i tail (view x.seat.now) x.locals s more word local (is ∙ e) h)),
  ),
)
