-- What stands at a place of a script.
use Rattle.std.proofs.Common.{◌≡◌, ◌⊎◌, ℕ, zero, suc, ◌+◌, ◌<◌, Bool, false, List, [], ◌∷◌, ◌++◌, length, get_or, take, Some, sym, refl, ap, subst, inl, inr, ⊎_elim, arith}
use Rattle.std.proofs.lemmas.List.{length-append, length-take}
use Rattle.std.proofs.lemmas.Option.{slice_get_within, slice_get-get_or, get_or_from_slice_get}
use Rattle.std.specs.List.{flat_map}
use Rattle.std.specs.Prelude.{slice_get}
use Rattle.wave_base.specs.declared.types.RowId.{RowId}
use Rattle.wave_base.specs.declared.types.Cell.{Cell}
use Rattle.sched_types.specs.declared.lists.Wait.{Wait}
use Rattle.sched_types.specs.declared.sched.Task.{Task}
use Rattle.sched_types.specs.Order.{tasks_of}
use Rattle.core_law.specs.Works.{Instance, Work}
use Rattle.core_law.specs.Numbers.{first, nothing}
use Rattle.core_law.specs.Scripts.{Action, look, write, finish, actions, numbered, row_actions, looks, task_actions, next}
use Rattle.core_law.specs.Standing.{finishes, finished}
use Rattle.core_law.proofs.Laid.{IsOf}
use Rattle.core_law.proofs.Kept.{finishes_append}
use Rattle.core_cells.proofs.Places.{none_is_some, some_same, at_left, at_right, at_append, begins, in_pieces, of_pieces, take_pieces, of_map}
use Rattle.core_law.proofs.Scripts.{offset, part, unmarked, of_unmarked, of_begun, begun_write, in_numbered, of_numbered, numbered_plain, tasks_finish, inside_no_finish}

abbrev pub idle : Task
idle = record { level = 0; rows = []; waits = [] }

-- the task b of the worker k
abbrev pub task : Work → ℕ → ℕ → Task
task w k b = get_or (tasks_of w.workers k) b idle

-- a row stands there
abbrev pub StandsAt : Work → ℕ → ℕ → ℕ → RowId → Type 0
StandsAt w k b s r = slice_get (task w k b).rows s ≡ Some r

-- where the task b begins in the script of k
abbrev pub start_of : Work → ℕ → ℕ → ℕ
start_of w k b = begins (task_actions w) (tasks_of w.workers k) b

-- and where its s-th row does
abbrev pub row_start : Work → ℕ → ℕ → ℕ → ℕ
row_start w k b s = start_of w k b + (length (looks (task w k b)) + begins (row_actions w) (task w k b).rows s)

abbrev pub insts : Work → RowId → List Instance
insts w r = get_or w.rows r.0 []

-- the e-th action of the j-th instance of the row r, which is the s-th of the task b
pub record At (w : Work) (k p : ℕ) (a : Action) : Type 0 where
  pub b : ℕ
  pub s : ℕ
  pub r : RowId
  pub j : ℕ
  pub e : ℕ
  pub standing : StandsAt w k b s r
  pub inside : j < length (insts w r)
  pub act : slice_get (actions (first w r.0 + j) (get_or (insts w r) j nothing)) e ≡ Some (unmarked a)
  pub begun : slice_get (row_actions w r) (offset (first w r.0) (insts w r) j + e) ≡ Some a
  pub place : p ≡ row_start w k b s + (offset (first w r.0) (insts w r) j + e)
  pub done : finished w k p ≡ b

pub has_task : (ts : List Task) (b s : ℕ) (r : RowId) → slice_get (get_or ts b idle).rows s ≡ Some r → b < length ts
has_task [] b s r h = absurd (none_is_some r h)
has_task (t ∷ ts) zero s r h = omega arith
has_task (t ∷ ts) (suc b) s r h = let q = has_task ts b s r h in omega arith

module _ (w : Work) where
  pub done_is : (k p b o : ℕ) → b < length (tasks_of w.workers k) → o < length (task_actions w (task w k b)) → p ≡ start_of w k b + o → finished w k p ≡ b
  done_is k p b o l in_o is = let t : Task = task w k b in let ts : List Task = tasks_of w.workers k in
      let e = ap finishes (take_pieces (task_actions w) ts p b o t (slice_get-get_or ts b idle l) (omega arith) is) in let n = finishes_append (flat_map (task_actions w) (take b ts)) (take o (task_actions w t)) in
      let m = tasks_finish w (take b ts) in let z = inside_no_finish w t o in_o in let u = length-take b ts in omega arith

  abbrev pub rows_part : Task → List Action
  rows_part t = flat_map (row_actions w) t.rows

  task_act : (k p : ℕ) (a : Action) → next w k p ≡ Some a
      → (b : ℕ) × (o : ℕ) × (b < length (tasks_of w.workers k)) × (slice_get (task_actions w (task w k b)) o ≡ Some a) × (p ≡ start_of w k b + o)
  task_act k p a is = let r = in_pieces (task_actions w) (tasks_of w.workers k) p a is in let t = get_or_from_slice_get (tasks_of w.workers k) r.0 r.2 idle r.3 in
      (r.0, r.1, slice_get_within (tasks_of w.workers k) r.0 r.2 r.3, subst (λ (z : Task). slice_get (task_actions w z) r.1 ≡ Some a) (sym t) r.4, r.5)

  pub of_task : (k p b o : ℕ) (a : Action) → b < length (tasks_of w.workers k) → slice_get (task_actions w (task w k b)) o ≡ Some a → p ≡ start_of w k b + o → next w k p ≡ Some a
  of_task k p b o a l i is = of_pieces (task_actions w) (tasks_of w.workers k) p b o (task w k b) a (slice_get-get_or (tasks_of w.workers k) b idle l) i is

  -- a look of the task b, at its place there
  pub record AtLook (k p : ℕ) (a : Action) : Type 0 where
    pub b : ℕ
    pub o : ℕ
    pub wait : Wait
    pub exists : b < length (tasks_of w.workers k)
    pub is : a ≡ look wait.worker wait.count
    pub waits : slice_get (task w k b).waits o ≡ Some wait
    pub place : p ≡ start_of w k b + o
    pub done : finished w k p ≡ b

  row_at : (k p b o : ℕ) (a : Action) → b < length (tasks_of w.workers k) → slice_get (rows_part (task w k b)) o ≡ Some a → p ≡ start_of w k b + (length (looks (task w k b)) + o) → At w k p a
  row_at k p b o a l i is = let t : Task = task w k b in
      let r = in_pieces (row_actions w) t.rows o a i in let d : RowId = r.2 in let g : ℕ = first w d.0 in
      let q = in_numbered g (insts w d) r.1 (unmarked a) (of_begun (numbered g (insts w d)) r.1 a (numbered_plain g (insts w d)) r.4) in
      let v = get_or_from_slice_get (insts w d) q.0 q.2 nothing q.3 in
      let u = r.5 in let z = q.5 in let bound = slice_get_within (rows_part t) o a i in
      let n = length-append (looks t) (rows_part t ++ finish ∷ []) in let m = length-append (rows_part t) (finish ∷ []) in record {
        b = b;
        s = r.0;
        r = d;
        j = q.0;
        e = q.1;
        standing = r.3;
        inside = slice_get_within (insts w d) q.0 q.2 q.3;
        act = subst (λ (x : Instance). slice_get (actions (g + q.0) x) q.1 ≡ Some (unmarked a)) (sym v) q.4;
        begun = subst (λ (y : ℕ). slice_get (row_actions w d) y ≡ Some a) z r.4;
        place = omega arith;
        done = done_is k p b (length (looks t) + o) l (omega arith) is;
      }

  pub parse : (k p : ℕ) (a : Action) → next w k p ≡ Some a → AtLook k p a ⊎ (At w k p a ⊎ (a ≡ finish))
  parse k p a is = let r = task_act k p a is in let b : ℕ = r.0 in let o : ℕ = r.1 in let t : Task = task w k b in
      let d = done_is k p b o r.2 (slice_get_within (task_actions w t) o a r.3) r.4 in ⊎_elim
      (λ (l : slice_get (looks t) o ≡ Some a). let x = of_map (λ (f : Wait). look f.worker f.count) t.waits o a l in
      inl record { b = b; o = o; wait = x.0; exists = r.2; is = sym x.2; waits = x.1; place = r.4; done = d })
      (λ l. inr (⊎_elim
      (λ (m : slice_get (rows_part t) l.0 ≡ Some a). let u = l.1 in let v = r.4 in inl (row_at k p b l.0 a r.2 m (omega arith)))
      (λ m. inr (only m.0 m.2))
      (at_append (rows_part t) (finish ∷ []) l.0 a l.2)))
      (at_append (looks t) (rows_part t ++ finish ∷ []) o a r.3)
    where
      only : {a : Action} → (o : ℕ) → slice_get (finish ∷ []) o ≡ Some a → a ≡ finish
      only {a} zero h = sym (some_same finish a h)
      only {a} (suc o) h = absurd (none_is_some a h)

  -- the write of an instance of a row that stands somewhere
  pub of_row : (k p b s : ℕ) (r : RowId) (j e g : ℕ) (x : Cell) → StandsAt w k b s r → j < length (insts w r)
      → slice_get (actions (first w r.0 + j) (get_or (insts w r) j nothing)) e ≡ Some (write false g x)
      → p ≡ row_start w k b s + (offset (first w r.0) (insts w r) j + e) → (c : Bool) × (next w k p ≡ Some (write c g x))
  of_row k p b s r j e g x standing l act is = let t : Task = task w k b in let o : ℕ = offset (first w r.0) (insts w r) j + e in
      let q = begun_write (numbered (first w r.0) (insts w r)) o g false x
      (of_numbered (first w r.0) (insts w r) o j e (get_or (insts w r) j nothing) (write false g x) (slice_get-get_or (insts w r) j nothing l) act refl) in
      let a : Action = write q.0 g x in let o' : ℕ = begins (row_actions w) t.rows s + o in (
        q.0,
        of_task k p b (length (looks t) + o') a (has_task (tasks_of w.workers k) b s r standing)
            (at_right (looks t) (rows_part t ++ finish ∷ []) (length (looks t) + o') o' a refl
            (at_left (rows_part t) (finish ∷ []) o' a (of_pieces (row_actions w) t.rows o' s o r a standing q.1 refl)))
            (omega arith),
      )

  pub at_of : (k p g : ℕ) (a : Action) → next w k p ≡ Some a → IsOf g a → At w k p a
  at_of k p g a is of = ⊎_elim
      (λ (t : AtLook k p a). absurd (subst (IsOf g) t.is of))
      (λ t. ⊎_elim (λ (h : At w k p a). h) (λ (h : a ≡ finish). absurd (subst (IsOf g) h of)) t)
      (parse k p a is)

  -- its number
  pub number : (g h e : ℕ) (s : Instance) (a : Action) → IsOf g a → slice_get (actions h s) e ≡ Some (unmarked a) → g ≡ h
  number g h e s a of is = ⊎_elim
      (λ t. sym (subst (IsOf g) t.2 (of_unmarked g a of)))
      (λ t. sym (subst (IsOf g) t.2 (of_unmarked g a of)))
      (part h s e (unmarked a) is)
