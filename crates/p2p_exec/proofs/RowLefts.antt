-- Rows one after another.
use Rattle.std.proofs.Common.{◌≡◌, ℕ, zero, suc, ◌+◌, ◌<◌, ◌≤◌, ℤ, pos, Bool, true, false, List, [], ◌∷◌, ◌++◌, length, get_or, drop, refl, sym, ap, subst, ◌∙◌, append_assoc, arith}
use Rattle.wave_base.specs.declared.types.RowId.{RowId}
use Rattle.loop_core.specs.Sequence.{zeros}
use Rattle.loop_core.specs.Instances.{Instance, instances}
use Rattle.loop_meaning.specs.Leads.{Leads, Admits}
use Rattle.core_law.specs.Numbers.{first}
use Rattle.core_law.specs.Scripts.{Action, numbered, begun, row_actions}
use Rattle.core_rows.specs.Replay.{instances_after}
use Rattle.core_rows.proofs.Agree.{rows_at}
use Rattle.core_nest.specs.Nested.{nest_work}
use Rattle.core_nest.proofs.Nests.{row_deeds}
use Rattle.core_machine.specs.declared.work.Work.{Work}
use Rattle.core_machine.specs.FitWork.{IsFitWork, plain}
use Rattle.done_words.specs.declared.view.View.{View}
use Rattle.done_words.specs.Seats.{view}
use Rattle.p2p_exec.specs.declared.run.Run.{Run}
use Rattle.p2p_exec.specs.Left.{IsLeft}
use Rattle.p2p_exec.specs.Rows.{to_come, deeds, acts, StandsBefore, IsOf, IsRow, MayVisit, Visits}
use Rattle.p2p_exec.specs.Tasks.{rows_actions, MayAct, Acts}
use Rattle.p2p_exec.proofs.Standing.{admitted, walked}

-- the actions of a row are those of its instances
row_is : (w : Work) (r : RowId) → IsFitWork w → r.0 < w.arrays.n → row_actions (plain w) r ≡ begun (acts w r.0 [] (instances w.arrays w.nest (pos r.0)))
row_is w r fit l =
    let ss : List Instance = instances w.arrays w.nest (pos r.0) in
    let rows = (nest_work w.nest w.arrays w.values w.sched.workers).rows in
    let here : get_or (plain w).rows r.0 [] ≡ instances_after 16 [] (deeds w ss) = rows_at 16 rows r.0 ∙ ap (instances_after 16 []) (row_deeds w.nest w.arrays w.values w.sched.workers fit r.0 l) in
    let number : first (plain w) r.0 ≡ first (plain w) r.0 + 0 = omega arith in
    λ t. begun (numbered (number t) (here t))

pub row_begins : (w : Work) (k : ℕ) (v : View) (r : RowId) (tail : List Action) (locals : List ℤ) → IsFitWork w → r.0 < w.arrays.n → locals ≡ zeros → IsLeft w k v (row_actions (plain w) r ++ tail)
    → StandsBefore w k r.0 tail v locals (instances w.arrays w.nest (pos r.0))
row_begins w k v r tail locals fit l none left = record {
  earlier = [];
  row_is = refl;
  begins = true;
  left = subst (λ (x : List Action). IsLeft w k v (x ++ tail)) (row_is w r fit l) left;
  caught = ap (λ (z : List ℤ). record { locals = z; used = 0 }) (sym none);
}

nothing_left : (begins : Bool) (tail : List Action) → to_come begins [] tail ≡ tail
nothing_left true tail = refl
nothing_left false tail = refl

pub row_ends : (w : Work) (k i : ℕ) (v : View) (tail : List Action) (locals : List ℤ) → StandsBefore w k i tail v locals [] → IsLeft w k v tail
row_ends w k i v tail locals h = subst (IsLeft w k v) (nothing_left h.begins tail) h.left

-- A row from its first instance on: the walk over its instances may begin, and then its actions are made.

pub row_admitted : (w : Work) (x : Run) (r : RowId) → IsRow w r.0 → IsOf w x → x.locals ≡ zeros → MayAct w (view x.seat.now) (row_actions (plain w) r) → Admits MayVisit Visits x (instances w.arrays w.nest (pos r.0))
row_admitted w x r row over none (k, more, left) =
    admitted w k r.0 more row (instances w.arrays w.nest (pos r.0)) x over (row_begins w k (view x.seat.now) r more x.locals row.fit row.here none left)

row_walked : (w : Work) (x y : Run) (r : RowId) (k : ℕ) (more : List Action) → IsRow w r.0 → IsOf w x → x.locals ≡ zeros → IsLeft w k (view x.seat.now) (row_actions (plain w) r ++ more) → Leads Visits x (instances w.arrays w.nest (pos r.0)) y
    → IsOf w y × StandsBefore w k r.0 more (view y.seat.now) y.locals []
row_walked w x y r k more row over none left leads =
    walked w k r.0 more row (instances w.arrays w.nest (pos r.0)) x y over (row_begins w k (view x.seat.now) r more x.locals row.fit row.here none left) leads

pub row_over : (w : Work) (x y : Run) (r : RowId) → IsRow w r.0 → IsOf w x → x.locals ≡ zeros → MayAct w (view x.seat.now) (row_actions (plain w) r) → Leads Visits x (instances w.arrays w.nest (pos r.0)) y → IsOf w y
row_over w x y r row over none (k, more, left) leads = (row_walked w x y r k more row over none left leads).0

pub row_ran : (w : Work) (x y : Run) (r : RowId) → IsRow w r.0 → IsOf w x → x.locals ≡ zeros → Leads Visits x (instances w.arrays w.nest (pos r.0)) y → Acts w (view x.seat.now) (row_actions (plain w) r) (view y.seat.now)
row_ran w x y r row over none leads k more left = row_ends w k r.0 (view y.seat.now) more y.locals (row_walked w x y r k more row over none left leads).1

-- rows one after another

pub drop_here : {A : Type 0} (l : List A) (i : ℕ) (d : A) → i < length l → drop i l ≡ get_or l i d ∷ drop (suc i) l
drop_here [] i d lt = absurd (omega arith)
drop_here (x ∷ l) zero d lt = refl
drop_here (x ∷ l) (suc i) d lt = drop_here l i d (omega arith)

pub drop_all : {A : Type 0} (l : List A) (i : ℕ) → length l ≤ i → drop i l ≡ []
drop_all [] zero le = refl
drop_all [] (suc i) le = refl
drop_all (x ∷ l) zero le = absurd (omega arith)
drop_all (x ∷ l) (suc i) le = drop_all l i (omega arith)

-- the rows from one on are next, wherever all were at first
abbrev pub RowsFrom : Work → View → List RowId → ℕ → View → Type 0
RowsFrom w u rows i v = (k : ℕ) (more : List Action) → IsLeft w k u (rows_actions w rows ++ more) → IsLeft w k v (rows_actions w (drop i rows) ++ more)

row_first : (w : Work) (rows : List RowId) (i : ℕ) (d : RowId) (more : List Action) → i < length rows
    → rows_actions w (drop i rows) ++ more ≡ row_actions (plain w) (get_or rows i d) ++ (rows_actions w (drop (i + 1) rows) ++ more)
row_first w rows i d more l =
    let r : RowId = get_or rows i d in
    ap (λ (z : List RowId). rows_actions w z ++ more) (drop_here rows i d l)
    ∙ (append_assoc (row_actions (plain w) r) (rows_actions w (drop (suc i) rows)) more
    ∙ ap (λ (n : ℕ). row_actions (plain w) r ++ (rows_actions w (drop n rows) ++ more)) (let e : suc i ≡ i + 1 = omega arith in e))

pub may_row : (w : Work) (u v : View) (rows : List RowId) (i : ℕ) (d : RowId) → i < length rows → MayAct w u (rows_actions w rows) → RowsFrom w u rows i v → MayAct w v (row_actions (plain w) (get_or rows i d))
may_row w u v rows i d l (k, more, left) from = (k, rows_actions w (drop (i + 1) rows) ++ more, subst (IsLeft w k v) (row_first w rows i d more l) (from k more left))

pub after_row : (w : Work) (u v z : View) (rows : List RowId) (i : ℕ) (d : RowId) → i < length rows → RowsFrom w u rows i v → Acts w v (row_actions (plain w) (get_or rows i d)) z → RowsFrom w u rows (i + 1) z
after_row w u v z rows i d l from acts k more left = acts k (rows_actions w (drop (i + 1) rows) ++ more) (subst (IsLeft w k v) (row_first w rows i d more l) (from k more left))

pub after_rows : (w : Work) (u v : View) (rows : List RowId) (i : ℕ) → length rows ≤ i → RowsFrom w u rows i v → Acts w u (rows_actions w rows) v
after_rows w u v rows i l from k more left = subst (λ (z : List RowId). IsLeft w k v (rows_actions w z ++ more)) (drop_all rows i l) (from k more left)
