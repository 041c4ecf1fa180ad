-- Places and numbers of tasks, and the rows that stand there.
use Rattle.std.proofs.Common.{◌≡◌, ℕ, ◌+◌, ◌<◌, ◌∙◌, inl, inr, List, [], Some, length, get_or, replicate, arith, refl, ap, sym, subst}
use Rattle.std.specs.List.{slice_get}
use Rattle.std.proofs.lemmas.Bool.{cases_lt}
use Rattle.std.proofs.lemmas.List.{get_or_past, length-replicate}
use Rattle.std.proofs.lemmas.Option.{slice_get_within, get_or_from_slice_get, slice_get-get_or, slice_get_read}
use Rattle.wave_base.specs.declared.types.RowId.{RowId}
use Rattle.row_graph.specs.Rows.{row}
use Rattle.row_graph.proofs.Members.{In, In-from, In-to}
use Rattle.sched_types.specs.declared.sched.RowTask.{RowTask}
use Rattle.sched_types.specs.Order.{Spot, IsAt}
use Rattle.wait_sparsify.specs.Depends.{ArePlaced}
use Rattle.wait_sparsify.specs.Numbered.{rows_from}
use Rattle.wait_sparsify.specs.Written.{written_lists}
use Rattle.wait_sparsify.proofs.Numbering.{Has, number, rows_at_number, has_place}
use Rattle.wait_sparsify.proofs.TaskOf.{AreApart, task_of_row}

-- the number of the task at a place
abbrev pub num : List (List RowTask) → Spot → ℕ
num lists p = number lists p.worker p.at

abbrev pub place : ℕ → ℕ → Spot
place worker at = record { worker = worker; at = at }

pub has-from : {X : Type 0} (lists : List (List X)) (p : Spot) (t : X) → IsAt lists p t → p.at < length (get_or lists p.worker [])
has-from lists p t h = slice_get_within (get_or lists p.worker []) p.at t h

pub at-from : (lists : List (List RowTask)) (p : Spot) → Has lists p.worker p.at → (t : RowTask) × IsAt lists p t
at-from lists p h =
    let d : RowTask = record { level = 0; rows = [] } in
    (get_or (get_or lists p.worker []) p.at d, slice_get-get_or (get_or lists p.worker []) p.at d h)

pub rows_of-at : (lists : List (List RowTask)) (p : Spot) (t : RowTask) → IsAt lists p t → get_or (rows_from lists) (num lists p) [] ≡ t.rows
rows_of-at lists p t h =
    rows_at_number lists p.worker p.at t (has-from lists p t h) ∙ ap (λ (t : RowTask). t.rows) (get_or_from_slice_get (get_or lists p.worker []) p.at t t h)

-- a list that has a row is one of the lists
pub listed : (lists : List (List RowId)) (k : ℕ) (r : RowId) → In r (get_or lists k []) → k < length lists
listed lists k r h =
    elim (cases_lt k (length lists)) as (λ _. k < length lists) [
      | inl l ↦ l
      | inr g ↦ absurd (subst (λ (rows : List RowId). In r rows) (get_or_past lists k [] g) h)
    ]

-- the places of a number's rows
pub record StandsAt (lists : List (List RowTask)) (a : ℕ) (r : RowId) : Type 0 where
  pub p : Spot
  pub at : ℕ
  pub task : RowTask
  pub is_at : IsAt lists p task
  pub row_at : slice_get task.rows at ≡ Some r
  pub number_is : num lists p ≡ a

pub stands_at : (lists : List (List RowTask)) (a : ℕ) (r : RowId) → In r (get_or (rows_from lists) a []) → StandsAt lists a r
stands_at lists a r h =
    let w = has_place lists a (listed (rows_from lists) a r h) in
    let p : Spot = place w.0 w.1 in
    let t = at-from lists p w.2 in
    let e : get_or (rows_from lists) a [] ≡ t.0.rows = ap (λ k. get_or (rows_from lists) k []) (sym w.3) ∙ rows_of-at lists p t.0 t.1 in
    let c = In-to t.0.rows r (subst (λ (rows : List RowId). In r rows) e h) in
    record { p = p; at = c.0; task = t.0; is_at = t.1; row_at = slice_get_read t.0.rows (length t.0.rows) c.0 r refl c.1 (sym c.2); number_is = w.3 }

module _ (rows : ℕ) (lists : List (List RowTask)) (placed : ArePlaced rows lists) where
  pub rows_apart : AreApart (rows_from lists)
  rows_apart a b u h i =
      let s = stands_at lists a (row u) h in
      let t = stands_at lists b (row u) i in
      let o = placed.once (row u) s.p t.p s.at t.at (s.task, s.is_at, s.row_at) (t.task, t.is_at, t.row_at) in
      sym s.number_is ∙ ap (num lists) o.0 ∙ t.number_is

  pub row_below : (a : ℕ) (r : RowId) → In r (get_or (rows_from lists) a []) → r.0 < rows
  row_below a r h =
      let s = stands_at lists a r h in
      placed.rows_alone r s.p s.at (s.task, s.is_at, s.row_at)

  pub row_stands : (r : RowId) → r.0 < rows → (a : ℕ) × In r (get_or (rows_from lists) a [])
  row_stands r h =
      let w = placed.stands r h in
      let p = w.0 in
      let at = w.1 in
      let t = w.2.0 in
      let i = w.2.1 in
      let e = w.2.2 in
      let l = slice_get_within t.rows at r e in
      let m : In r t.rows = In-from t.rows r (at, l, get_or_from_slice_get t.rows at r r e) in
      (num lists p, subst (λ (rows : List RowId). In r rows) (sym (rows_of-at lists p t i)) m)

  -- the task of each row, as the numbers say
  abbrev pub tasks_of_rows : List ℕ
  tasks_of_rows = written_lists 0 (rows_from lists) (replicate rows 0)

  pub task_is : (a : ℕ) (r : RowId) → In r (get_or (rows_from lists) a []) → get_or tasks_of_rows r.0 0 ≡ a
  task_is a r h =
      let e : 0 + a ≡ a = omega arith in
      task_of_row 0 (rows_from lists) (replicate rows 0) a r.0 rows_apart (omega (arith, length-replicate {A = ℕ} rows 0, row_below a r h)) h ∙ e
