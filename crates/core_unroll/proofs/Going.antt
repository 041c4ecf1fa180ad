-- Rows and tasks one after another.
use Rattle.std.proofs.Common.{◌≡◌, ℕ, zero, suc, ◌+◌, ◌<◌, ◌≤◌, ℤ, Some, List, [], ◌∷◌, ◌++◌, length, get_or, map, take, refl, sym, ap, subst, ◌∙◌, append_assoc, arith}
use Rattle.std.specs.Prelude.{Contains, slice_get}
use Rattle.std.specs.List.{flat_map}
use Rattle.std.proofs.lemmas.List.{append-nil, take_all}
use Rattle.std.proofs.lemmas.Option.{slice_get-get_or}
use Rattle.wave_base.specs.declared.types.RowId.{RowId}
use Rattle.sched_types.specs.declared.sched.Task.{Task}
use Rattle.loop_core.specs.declared.nest.Nest.{Nest}
use Rattle.loop_core.specs.Lists.{Lists}
use Rattle.core_cells.proofs.Places.{is_in, place_in, of_pieces}
use Rattle.core_law.specs.Works.{Work}
use Rattle.core_law.specs.Scripts as laws
use Rattle.core_law.specs.Scripts.{Action as LawAction, finish, row_actions, task_actions}
use Rattle.core_nest.specs.NestLaws.{plain_work}
use Rattle.core_run.specs.declared.action.Action.TheVariants.{Finish}
use Rattle.core_run.specs.Links.{at_finish}
use Rattle.core_unroll.specs.declared.unrolling.Unrolling.{Unrolling}
use Rattle.core_unroll.specs.Plans.{look_of}
use Rattle.core_unroll.specs.Advances.{Advances, IsReady, rows_of, AreBelow, RowAdvances, RowsAdvance, TaskAdvances}
use Rattle.core_unroll.proofs.Matched.{match_looks}
use Rattle.core_unroll.proofs.Advanced.{put, advances_more, stays_ready}

-- one element more
pub pieces_more : {X A : Type 0} (f : X → List A) (xs : List X) (k : ℕ) (d : X) → k < length xs → flat_map f (take (k + 1) xs) ≡ flat_map f (take k xs) ++ f (get_or xs k d)
pieces_more f [] k d l = absurd (omega arith)
pieces_more f (x ∷ xs) zero d l = append-nil (f x)
pieces_more f (x ∷ xs) (suc k) d l =
    let e : suc k + 1 ≡ suc (k + 1) = omega arith in
    ap (λ (n : ℕ). flat_map f (take n (x ∷ xs))) e ∙ (ap (λ (l : List _). f x ++ l) (pieces_more f xs k d (omega arith)) ∙ sym (append_assoc (f x) (flat_map f (take k xs)) (f (get_or xs k d))))

pub taken_more : {A : Type 0} (xs : List A) (k : ℕ) (d : A) → k < length xs → take (k + 1) xs ≡ take k xs ++ get_or xs k d ∷ []
taken_more [] k d l = absurd (omega arith)
taken_more (x ∷ xs) zero d l = refl
taken_more (x ∷ xs) (suc k) d l = let e : suc k + 1 ≡ suc (k + 1) = omega arith in ap (λ (n : ℕ). take n (x ∷ xs)) e ∙ ap (λ (l : List _). x ∷ l) (taken_more xs k d (omega arith))

-- the element at a place is one of them, and so are those of its piece
pub is_there : {A : Type 0} (xs : List A) (k : ℕ) (d : A) → k < length xs → Contains xs (get_or xs k d)
is_there xs k d l = is_in xs (get_or xs k d) k (slice_get-get_or xs k d l)

pub in_piece : {X A : Type 0} (f : X → List A) (xs : List X) (k : ℕ) (x : X) (a : A) → slice_get xs k ≡ Some x → Contains (f x) a → Contains (flat_map f xs) a
in_piece f xs k x a e i = let p = place_in (f x) a i in is_in (flat_map f xs) a (length (flat_map f (take k xs)) + p.0) (of_pieces f xs (length (flat_map f (take k xs)) + p.0) k p.0 x a e p.1 refl)

-- one row more
pub rows_more : (nest : Nest) (a : Lists) (rows : List RowId) (k : ℕ) (d : RowId) (u v z : Unrolling) (x : List (List ℤ)) (workers : List (List Task)) → k < length rows → IsReady nest a x workers u → AreBelow a.n rows
    → Advances (plain_work nest a x workers) u (flat_map (row_actions (plain_work nest a x workers)) (take k rows)) (take k rows) v
    → RowAdvances nest a (get_or rows k d) v z
    → Advances (plain_work nest a x workers) u (flat_map (row_actions (plain_work nest a x workers)) (take (k + 1) rows)) (take (k + 1) rows) z
rows_more nest a rows k d u v z x workers l ready below f row =
    let w : Work = plain_work nest a x workers in
    let r : RowId = get_or rows k d in
    let g = row x workers (stays_ready w nest a x workers u v (flat_map (row_actions w) (take k rows)) (take k rows) ready f) (below r (is_there rows k d l)) in
    let P : List LawAction × List RowId → Type 0 = λ q. Advances w u q.0 q.1 z in
    subst P (λ i. (sym (pieces_more (row_actions w) rows k d l) i, sym (taken_more rows k d l) i))
    (advances_more w u v z (flat_map (row_actions w) (take k rows)) (row_actions w r) (take k rows) (r ∷ []) f g)

-- all rows
pub rows_all : (w : Work) (u v : Unrolling) (rows : List RowId) (k : ℕ) → length rows ≤ k → Advances w u (flat_map (row_actions w) (take k rows)) (take k rows) v → Advances w u (flat_map (row_actions w) rows) rows v
rows_all w u v rows k l f = subst (λ (rs : List RowId). Advances w u (flat_map (row_actions w) rs) rs v) (take_all k rows l) f

-- all tasks
pub tasks_all : (w : Work) (u v : Unrolling) (tasks : List Task) (k : ℕ) → length tasks ≤ k → Advances w u (flat_map (task_actions w) (take k tasks)) (flat_map rows_of (take k tasks)) v → Advances w u (flat_map (task_actions w) tasks) (flat_map rows_of tasks) v
tasks_all w u v tasks k l f = subst (λ (ts : List Task). Advances w u (flat_map (task_actions w) ts) (flat_map rows_of ts) v) (take_all k tasks l) f

-- one task more
pub tasks_more : (nest : Nest) (a : Lists) (tasks : List Task) (k : ℕ) (d : Task) (u v z : Unrolling) (x : List (List ℤ)) (workers : List (List Task)) → k < length tasks → IsReady nest a x workers u → AreBelow a.n (flat_map rows_of tasks)
    → Advances (plain_work nest a x workers) u (flat_map (task_actions (plain_work nest a x workers)) (take k tasks)) (flat_map rows_of (take k tasks)) v
    → TaskAdvances nest a (get_or tasks k d) v z
    → Advances (plain_work nest a x workers) u (flat_map (task_actions (plain_work nest a x workers)) (take (k + 1) tasks)) (flat_map rows_of (take (k + 1) tasks)) z
tasks_more nest a tasks k d u v z x workers l ready below f task =
    let w : Work = plain_work nest a x workers in
    let t : Task = get_or tasks k d in
    let g = task x workers (stays_ready w nest a x workers u v (flat_map (task_actions w) (take k tasks)) (flat_map rows_of (take k tasks)) ready f)
    (λ r i. below r (in_piece rows_of tasks k t r (slice_get-get_or tasks k d l) i)) in
    let P : List LawAction × List RowId → Type 0 = λ q. Advances w u q.0 q.1 z in
    subst P (λ i. (sym (pieces_more (task_actions w) tasks k d l) i, sym (pieces_more rows_of tasks k d l) i))
    (advances_more w u v z (flat_map (task_actions w) (take k tasks)) (task_actions w t) (flat_map rows_of (take k tasks)) t.rows f g)

-- the looks, the rows and the finish of a task
pub task_advances : (nest : Nest) (a : Lists) (task : Task) (u p q v : Unrolling)
    → p.actions.items ≡ u.actions.items ++ map look_of task.waits → p.hows ≡ u.hows → p.book ≡ u.book → p.values ≡ u.values → p.room ≡ u.room
    → RowsAdvance nest a task.rows p q
    → v.actions.items ≡ q.actions.items ++ Finish ∷ [] → v.hows ≡ q.hows → v.book ≡ q.book → v.values ≡ q.values → v.room ≡ q.room
    → TaskAdvances nest a task u v
task_advances nest a task u p q v looks hows book values room rows finishes hows' book' values' room' x workers ready below =
    let w : Work = plain_work nest a x workers in
    let f : Advances w u (laws.looks task) [] p = put w u p (laws.looks task) (map look_of task.waits) looks hows book values room (λ b h. match_looks w b h task.waits) in
    let g = rows x workers (stays_ready w nest a x workers u p (laws.looks task) [] ready f) below in
    let h : Advances w q (finish ∷ []) [] v = put w q v (finish ∷ []) (Finish ∷ []) finishes hows' book' values' room' (λ b k. (at_finish, tt)) in
    let gh = advances_more w p q v (flat_map (row_actions w) task.rows) (finish ∷ []) task.rows [] g h in
    subst (λ (rs : List RowId). Advances w u (task_actions w task) rs v) (append-nil task.rows)
    (advances_more w u p v (laws.looks task) (flat_map (row_actions w) task.rows ++ finish ∷ []) [] (task.rows ++ []) f gh)
