-- The scripts of a fit work have the layout that the laws need.
use Rattle.std.proofs.Common.{◌≡◌, ℕ, suc, ◌+◌, ◌-◌, ◌<◌, ◌≤◌, Bool, false, List, [], ◌∷◌, ◌++◌, length, get_or, map, take, Option, Some, sym, refl, ap, ◌∙◌, subst, ⊎_elim, arith}
use Rattle.std.proofs.lemmas.List.{length-append, length-map, take_all, take-map, length-take}
use Rattle.std.proofs.lemmas.Option.{slice_get_within, slice_get-get_or, get_or_from_slice_get}
use Rattle.std.proofs.lemmas.Bool.{cases_lt, cases_eq}
use Rattle.std.specs.List.{flat_map}
use Rattle.std.specs.Prelude.{ℤ, slice_get, Contains}
use Rattle.wave_base.specs.declared.types.RowId.{RowId}
use Rattle.wave_base.specs.declared.types.Cell.{Cell}
use Rattle.sched_types.specs.declared.lists.Wait.{Wait}
use Rattle.sched_types.specs.declared.sched.Task.{Task}
use Rattle.sched_types.specs.Order.{Spot, IsAt, tasks_of}
use Rattle.sched_types.specs.Fits.{Stands}
use Rattle.core_law.specs.Works.{Instance, Work}
use Rattle.core_law.specs.Numbers.{instance_at, total, first, row, nothing}
use Rattle.core_law.specs.Sequential.{kept, word_before, read_before, read_with}
use Rattle.core_law.specs.Dependence.{Reads, Writes}
use Rattle.core_law.specs.Fit.{IsFit}
use Rattle.core_law.specs.Scripts.{Action, look, read, write, finish, write_of, actions, numbered, row_actions, looks, task_actions, script, next}
use Rattle.core_law.specs.Standing.{finishes, finished, task_start}
use Rattle.core_law.proofs.Laid.{recalled, recalled_at, IsOf, For, row_of, task_at, PastLooks, Laid}
use Rattle.core_law.proofs.Kept.{finishes_append, recalled_append, finished_rises, earlier}
use Rattle.core_cells.proofs.Places.{at_left, at_right, take_left, take_right, begins, of_pieces, take_pieces, place_in, is_in, at_map}
use Rattle.core_law.proofs.Numbers.{row_is, row_rises, place_of, small, instance_is}
use Rattle.core_law.proofs.Scripts.{offset, write_at, Part, part, unmarked, mark, begun_recalled, numbered_plain, offset_far, take_numbered, looks_recalled, tasks_recalled, task_finish, tasks_finish, reads_recalled, row_recalled}
use Rattle.core_law.proofs.Parsed.{idle, task, StandsAt, start_of, row_start, insts, At, AtLook, has_task, rows_part, parse, at_of, of_row, of_task, number, done_is}

module _ (w : Work) (fit : IsFit w) where
  -- a row that stands there, in the words of schedules
  stands_there : (k b s : ℕ) (r : RowId) → StandsAt w k b s r → Stands w.workers r (task_at k b) s
  stands_there k b s r h = (task w k b, slice_get-get_or (tasks_of w.workers k) b idle (has_task (tasks_of w.workers k) b s r h), h)

  stands_here : (t : Spot) (s : ℕ) (r : RowId) → Stands w.workers r t s → StandsAt w t.worker t.at s r
  stands_here t s r h = subst (λ (z : Task). slice_get z.rows s ≡ Some r) (sym (get_or_from_slice_get (tasks_of w.workers t.worker) t.at h.0 idle h.1)) h.2

  -- an action of the instance g, with its place in row and instance
  pub record Seen (k p g : ℕ) (a : Action) : Type 0 where
    pub at : At w k p a
    pub row_inside : at.r.0 < length w.rows
    pub is : g ≡ first w at.r.0 + at.j
    pub row : row w g ≡ at.r.0
    pub same : instance_at w g ≡ get_or (insts w at.r) at.j nothing
    pub within : at.e < length (actions g (instance_at w g))

  seen : (k p g : ℕ) (a : Action) → next w k p ≡ Some a → IsOf g a → Seen k p g a
  seen k p g a is of = let t = at_of w k p g a is of in let s : Instance = get_or (insts w t.r) t.j nothing in let n = number w g (first w t.r.0 + t.j) t.e s a of t.act in
      let l = fit.fits.rows_alone t.r (task_at k t.b) t.s (stands_there k t.b t.s t.r t.standing) in
      let same = ap (instance_at w) n ∙ instance_is w t.r.0 t.j l t.inside in record {
        at = t;
        row_inside = l;
        is = n;
        row = ap (row w) n ∙ row_is w.rows t.r.0 t.j l t.inside;
        same = same;
        within = subst (λ (z : ℕ × Instance). t.e < length (actions z.0 z.1)) (λ d. (sym n d, sym same d)) (slice_get_within (actions (first w t.r.0 + t.j) s) t.e (unmarked a) t.act);
      }

  known : (k p g : ℕ) → For w k p g → g < total w
  known k p g f = let s = seen k p g f.0 f.1 f.2 in let e = s.is in let n = small w.rows s.at.r.0 s.at.j s.row_inside s.at.inside in omega arith

  home : (k p g : ℕ) → For w k p g → (s : ℕ) × Stands w.workers (row_of w g) (task_at k (finished w k p)) s
  home k p g f = let s = seen k p g f.0 f.1 f.2 in
      (s.at.s, subst (λ (z : ℕ × ℕ). Stands w.workers (record { 0 = z.1 }) (task_at k z.0) s.at.s) (λ d. (sym s.at.done d, sym s.row d)) (stands_there k s.at.b s.at.s s.at.r s.at.standing))

  -- which part of its instance an action is
  part_of : (k p g : ℕ) (a : Action) (s : Seen k p g a) → Part g (instance_at w g) s.at.e (unmarked a)
  part_of k p g a s = part g (instance_at w g) s.at.e (unmarked a) (subst (λ (z : ℕ × Instance). slice_get (actions z.0 z.1) s.at.e ≡ Some (unmarked a)) (λ d. (sym s.is d, sym s.same d)) s.at.act)

  read_part : (k p g : ℕ) (b : Bool) (x : Cell) (s : Seen k p g (read b g x)) → slice_get (instance_at w g).reads s.at.e ≡ Some x
  read_part k p g b x s = ⊎_elim
      (λ t. let z : read false g x ≡ read false g t.0 = t.2 in t.1 ∙ ap Some (same_read t.0 z))
      (λ t. absurd (let z : read false g x ≡ write false g t.0 = t.2 in cc))
      (part_of k p g (read b g x) s)
    where
      same_read : (y : Cell) → read false g x ≡ read false g y → y ≡ x
      same_read y z = cc

  write_part : (k p g : ℕ) (b : Bool) (x : Cell) (s : Seen k p g (write b g x)) → Writes w g x × (s.at.e ≡ length (instance_at w g).reads)
  write_part k p g b x s = ⊎_elim
      (λ t. absurd (let z : write false g x ≡ read false g t.0 = t.2 in cc))
      (λ t. let z : write false g x ≡ write false g t.0 = t.2 in (t.1 ∙ ap Some (same_write t.0 z), t.3))
      (part_of k p g (write b g x) s)
    where
      same_write : (y : Cell) → write false g x ≡ write false g y → y ≡ x
      same_write y z = cc

  reads : (k p g : ℕ) (b : Bool) (x : Cell) → next w k p ≡ Some (read b g x) → Reads w g x
  reads k p g b x is = let s = seen k p g (read b g x) is refl in is_in (instance_at w g).reads x s.at.e (read_part k p g b x s)

  writes : (k p g : ℕ) (b : Bool) (x : Cell) → next w k p ≡ Some (write b g x) → Writes w g x
  writes k p g b x is = (write_part k p g b x (seen k p g (write b g x) is refl)).0

  -- the write of the j-th instance of a row that stands there
  write_there : (k b s : ℕ) (r : RowId) (j h : ℕ) (x : Cell) → StandsAt w k b s r → j < length (insts w r) → h ≡ first w r.0 + j → (get_or (insts w r) j nothing).target ≡ Some x
      → (c : Bool) × (next w k (row_start w k b s + (offset (first w r.0) (insts w r) j + length (get_or (insts w r) j nothing).reads)) ≡ Some (write c h x))
  write_there k b s r j h x standing l is target = let i : Instance = get_or (insts w r) j nothing in
      of_row w k (row_start w k b s + (offset (first w r.0) (insts w r) j + length i.reads)) b s r j (length i.reads) h x standing l
      (subst (λ (y : ℕ). slice_get (actions (first w r.0 + j) i) (length i.reads) ≡ Some (write false y x)) (sym is) (write_at (first w r.0 + j) i x target)) refl

  placed : (g : ℕ) (x : Cell) → g < total w → Writes w g x → (k : ℕ) × (p : ℕ) × (b : Bool) × (next w k p ≡ Some (write b g x))
  placed g x l wr = let n = place_of w.rows g l in let i : ℕ = n.0 in let j : ℕ = n.1 in let r : RowId = record { 0 = i } in
      let z = fit.fits.stands r n.2 in let t : Spot = z.0 in let s : ℕ = z.1 in
      let same : instance_at w g ≡ get_or (insts w r) j nothing = ap (instance_at w) n.4 ∙ instance_is w i j n.2 n.3 in
      let q = write_there t.worker t.at s r j g x (stands_here t s r z.2) n.3 n.4 (ap (λ (v : Instance). v.target) (sym same) ∙ wr) in
      (t.worker, row_start w t.worker t.at s + (offset (first w i) (insts w r) j + length (get_or (insts w r) j nothing).reads), q.0, q.1)

  below : (k p g h : ℕ) (x : Cell) → For w k p g → h < g → row w h ≡ row w g → Writes w h x → (q : ℕ) × (q < p) × (b : Bool) × (next w k q ≡ Some (write b h x))
  below k p g h x f lt same wr = let s = seen k p g f.0 f.1 f.2 in let n = known k p g f in let r : RowId = s.at.r in
      let m = place_of w.rows h (omega arith) in let j : ℕ = m.1 in
      let is_row : m.0 ≡ r.0 = sym (row_is w.rows m.0 m.1 m.2 m.3) ∙ (ap (row w) (sym m.4) ∙ (same ∙ s.row)) in
      let in_row : j < length (insts w r) = subst (λ (y : ℕ). j < length (get_or w.rows y [])) is_row m.3 in
      let is : h ≡ first w r.0 + j = m.4 ∙ ap (λ (y : ℕ). first w y + j) is_row in let is_g = s.is in
      let i : Instance = get_or (insts w r) j nothing in let b : ℕ = s.at.b in let at_s : ℕ = s.at.s in
      let same_inst : instance_at w h ≡ i = ap (instance_at w) is ∙ instance_is w r.0 j s.row_inside in_row in
      let q = write_there k b at_s r j h x s.at.standing in_row is (ap (λ (v : Instance). v.target) (sym same_inst) ∙ wr) in
      let far = offset_far (first w r.0) (insts w r) j s.at.j i (slice_get-get_or (insts w r) j nothing in_row) (omega arith) in let at_p = s.at.place in
      let inside = slice_get_within (actions (first w r.0 + j) i) (length i.reads) (write false (first w r.0 + j) x) (write_at (first w r.0 + j) i x (ap (λ (v : Instance). v.target) (sym same_inst) ∙ wr)) in
      (row_start w k b at_s + (offset (first w r.0) (insts w r) j + length i.reads), omega arith, q.0, q.1)

  above : (k p g j q h : ℕ) (b : Bool) (x : Cell) → For w k p g → next w j q ≡ Some (write b h x) → g ≤ h → row w h ≡ row w g → (j ≡ k) × (p ≤ q)
  above k p g j q h b x f is le same = let s = seen k p g f.0 f.1 f.2 in let t = seen j q h (write b h x) is refl in let r : RowId = s.at.r in
      let row_same : t.at.r ≡ r = (λ d. record { 0 = (sym t.row ∙ (same ∙ s.row)) d }) in
      let u = fit.fits.once r (task_at j t.at.b) (task_at k s.at.b) t.at.s s.at.s
      (subst (λ (y : RowId). Stands w.workers y (task_at j t.at.b) t.at.s) row_same (stands_there j t.at.b t.at.s t.at.r t.at.standing)) (stands_there k s.at.b s.at.s r s.at.standing) in
      let start_same : row_start w j t.at.b t.at.s ≡ row_start w k s.at.b s.at.s = (λ d. row_start w (u.0 d).worker (u.0 d).at (u.1 d)) in
      let t_is : h ≡ first w r.0 + t.at.j = t.is ∙ ap (λ (y : RowId). first w y.0 + t.at.j) row_same in let s_is = s.is in
      let t_place : q ≡ row_start w j t.at.b t.at.s + (offset (first w r.0) (insts w r) t.at.j + t.at.e) =
      t.at.place ∙ ap (λ (y : RowId). row_start w j t.at.b t.at.s + (offset (first w y.0) (insts w y) t.at.j + t.at.e)) row_same in
      let s_place = s.at.place in
      let o : offset (first w r.0) (insts w r) s.at.j + s.at.e ≤ offset (first w r.0) (insts w r) t.at.j + t.at.e = ⊎_elim
      (λ (e : s.at.j ≡ t.at.j).
      let g_is_h : g ≡ h = omega arith in let n = ap (λ (y : ℕ). offset (first w r.0) (insts w r) y) e in
      let full = (write_part j q h b x t).1 in let long = last_of h x (write_part j q h b x t).0 in let in_g = s.within in
      let m : length (actions g (instance_at w g)) ≡ length (actions h (instance_at w h)) = ap (λ (y : ℕ). length (actions y (instance_at w y))) g_is_h in omega arith)
      (λ (ne : s.at.j ≡ t.at.j → ⊥).
      let far = offset_far (first w r.0) (insts w r) s.at.j t.at.j (get_or (insts w r) s.at.j nothing) (slice_get-get_or (insts w r) s.at.j nothing s.at.inside) (omega arith) in
      let in_g = slice_get_within (actions (first w r.0 + s.at.j) (get_or (insts w r) s.at.j nothing)) s.at.e (unmarked f.0) s.at.act in omega arith)
      (cases_eq s.at.j t.at.j) in
      (ap (λ (z : Spot). z.worker) u.0, omega arith)
    where
      -- the write of an instance is its last action
      last_of : (h : ℕ) (x : Cell) → Writes w h x → length (actions h (instance_at w h)) ≡ length (instance_at w h).reads + 1
      last_of h x wr = length-append (map (read false h) (instance_at w h).reads) (write_of h (instance_at w h).target)
          ∙ (let n = length-map (instance_at w h).reads (read false h) in let m = ap (λ (o : Option Cell). length (write_of h o)) wr in omega arith)

  rising : (h g : ℕ) → h ≤ g → row w h ≤ row w g
  rising h g l = row_rises w.rows h g l

  -- a look that stands at the head of a task
  look_at : (k b : ℕ) (wait : Wait) → b < length (tasks_of w.workers k) → Contains (task w k b).waits wait
      → (s : ℕ) × (s < length (task w k b).waits) × (next w k (start_of w k b + s) ≡ Some (look wait.worker wait.count))
  look_at k b wait l i = let t : Task = task w k b in let r = place_in t.waits wait i in let m = at_map (λ (z : Wait). look z.worker z.count) t.waits r.0 wait r.1 in
      (r.0, slice_get_within t.waits r.0 wait r.1, of_task w k (start_of w k b + r.0) b r.0 (look wait.worker wait.count) l (at_left (looks t) (rows_part w t ++ finish ∷ []) r.0 (look wait.worker wait.count) m) refl)

  looks_long : (t : Task) → length (looks t) ≡ length t.waits
  looks_long t = length-map t.waits (λ (z : Wait). look z.worker z.count)

  task_long : (t : Task) → length t.waits < length (task_actions w t)
  task_long t = let m = length-append (looks t) (rows_part w t ++ finish ∷ []) in let n = length-append (rows_part w t) (finish ∷ []) in let k = looks_long t in omega arith

  -- past the looks of a task
  past_looks : (k b p : ℕ) → b < length (tasks_of w.workers k) → start_of w k b + length (task w k b).waits ≤ p → PastLooks w k b p
  past_looks k b p l le = (task w k b, slice_get-get_or (tasks_of w.workers k) b idle l, λ wait i. let s = look_at k b wait l i in let lt = s.1 in (start_of w k b + s.0, omega arith, s.2))

  looked : (k p g : ℕ) → For w k p g → PastLooks w k (finished w k p) p
  looked k p g f = let s = seen k p g f.0 f.1 f.2 in let b : ℕ = s.at.b in let at_p = s.at.place in let n = looks_long (task w k b) in
      subst (λ (z : ℕ). PastLooks w k z p) (sym s.at.done) (past_looks k b p (has_task (tasks_of w.workers k) b s.at.s s.at.r s.at.standing) (omega arith))

  few_tasks : (k p : ℕ) → finished w k p ≤ length (tasks_of w.workers k)
  few_tasks k p = ⊎_elim
      (λ (l : p < length (script w k)). let r = finished_rises w k p (length (script w k)) (omega arith) in let e = whole in omega arith)
      (λ (l : length (script w k) ≤ p). let e = ap finishes (take_all p (script w k) l) in let n = tasks_finish w (tasks_of w.workers k) in omega arith)
      (cases_lt p (length (script w k)))
    where
      whole : finished w k (length (script w k)) ≡ length (tasks_of w.workers k)
      whole = ap finishes (take_all (length (script w k)) (script w k) (omega arith)) ∙ tasks_finish w (tasks_of w.workers k)

  had_looked : (k b p : ℕ) → b < finished w k p → PastLooks w k b p
  had_looked k b p lt = let few = few_tasks k p in let l : b < length (tasks_of w.workers k) = omega arith in let m = task_long (task w k b) in
      let d = done_is w k (start_of w k b + length (task w k b).waits) b (length (task w k b).waits) l m refl in
      let e = earlier w k (start_of w k b + length (task w k b).waits) p (omega arith) in past_looks k b p l (omega arith)

  past_start : (t : Spot) (task : Task) (p : ℕ) → IsAt w.workers t task → task_start w t + length task.waits ≤ p → (t.at ≤ finished w t.worker p) × PastLooks w t.worker t.at p
  past_start t q p at le = let k : ℕ = t.worker in let b : ℕ = t.at in let l = slice_get_within (tasks_of w.workers k) b q at in
      let e : task w k b ≡ q = get_or_from_slice_get (tasks_of w.workers k) b q idle at in let n = ap (λ (z : Task). length z.waits) e in let m = task_long (task w k b) in
      let d = done_is w k (start_of w k b) b 0 l (omega arith) (omega arith) in let r = finished_rises w k (start_of w k b) p (omega arith) in
      (omega arith, past_looks k b p l (omega arith))

  -- past the last action of a task
  end_is : (k b : ℕ) → b < length (tasks_of w.workers k) → finished w k (start_of w k b + length (task_actions w (task w k b))) ≡ suc b
  end_is k b l = let t : Task = task w k b in let ts : List Task = tasks_of w.workers k in let o : ℕ = length (task_actions w t) in
      let e = ap finishes (take_pieces (task_actions w) ts (start_of w k b + o) b o t (slice_get-get_or ts b idle l) (omega arith) refl ∙ ap (λ (l : List Action). flat_map (task_actions w) (take b ts) ++ l) (take_all o (task_actions w t) (omega arith))) in
      let n = finishes_append (flat_map (task_actions w) (take b ts)) (task_actions w t) in let m = tasks_finish w (take b ts) in let z = task_finish w t in let u = length-take b ts in omega arith

  closed : (t : Spot) (q : Task) (p : ℕ) → IsAt w.workers t q → task_start w t + length (task_actions w q) ≤ p → t.at < finished w t.worker p
  closed t q p at le = let k : ℕ = t.worker in let b : ℕ = t.at in let l = slice_get_within (tasks_of w.workers k) b q at in
      let n = ap (λ (z : Task). length (task_actions w z)) (get_or_from_slice_get (tasks_of w.workers k) b q idle at) in let e = end_is k b l in
      let r = finished_rises w k (start_of w k b + length (task_actions w (task w k b))) p (omega arith) in omega arith

  over : (k b p : ℕ) → b < finished w k p → (q : Task) × IsAt w.workers (task_at k b) q × (task_start w (task_at k b) + length (task_actions w q) ≤ p)
  over k b p lt = let few = few_tasks k p in let l : b < length (tasks_of w.workers k) = omega arith in let t : Task = task w k b in (
    t,
    slice_get-get_or (tasks_of w.workers k) b idle l,
    ⊎_elim
        (λ (early : p < start_of w k b + length (task_actions w t)). let m = task_long t in let o : ℕ = length (task_actions w t) - 1 in
        let d = done_is w k (start_of w k b + o) b o l (omega arith) refl in let r = finished_rises w k p (start_of w k b + o) (omega arith) in absurd (omega arith))
        (λ (le : start_of w k b + length (task_actions w t) ≤ p). le)
        (cases_lt p (start_of w k b + length (task_actions w t))),
  )

  look_of : (k p f n : ℕ) → next w k p ≡ Some (look f n) → AtLook w k p (look f n)
  look_of k p f n is = ⊎_elim
      (λ (t : AtLook w k p (look f n)). t)
      (λ t. ⊎_elim
      (λ (h : At w k p (look f n)). absurd (no_look (first w h.r.0 + h.j) h.e (get_or (insts w h.r) h.j nothing) h.act))
      (λ (h : look f n ≡ finish). absurd (cc)) t)
      (parse w k p (look f n) is)
    where
      no_look : (g e : ℕ) (s : Instance) → slice_get (actions g s) e ≡ Some (look f n) → ⊥
      no_look g e s i = ⊎_elim (λ t. let z = t.2 in cc) (λ t. let z = t.2 in cc) (part g s e (look f n) i)

  waits : (k p f n : ℕ) → next w k p ≡ Some (look f n) → (q : Task) × IsAt w.workers (task_at k (finished w k p)) q × Contains q.waits (record { worker = f; count = n })
  waits k p f n is = let t = look_of k p f n is in let b : ℕ = t.b in let e = t.is in
      let same : t.wait ≡ record { worker = f; count = n } = same_wait f n t.wait.worker t.wait.count e in (
        task w k b,
        subst (λ (z : ℕ). IsAt w.workers (task_at k z) (task w k b)) (sym t.done) (slice_get-get_or (tasks_of w.workers k) b idle t.exists),
        is_in (task w k b).waits (record { worker = f; count = n }) t.o (t.waits ∙ ap Some same),
      )
    where
      same_wait : (f n f' n' : ℕ) → look f n ≡ look f' n' → let x : Wait = record { worker = f'; count = n' } in let y : Wait = record { worker = f; count = n } in x ≡ y
      same_wait f n f' n' z = let a : f' ≡ f = cc in let b : n' ≡ n = cc in λ d. record { worker = a d; count = b d }

  goes_on : (k p : ℕ) → finished w k p < length (tasks_of w.workers k) → p < length (script w k)
  goes_on k p lt = ⊎_elim (λ l. l)
      (λ (l : length (script w k) ≤ p). absurd (let e : finished w k p ≡ finishes (script w k) = ap finishes (take_all p (script w k) l) in let n = tasks_finish w (tasks_of w.workers k) in omega arith))
      (cases_lt p (length (script w k)))

  -- the registers

  tasks_then : (ts : List Task) (ys : List Action) → recalled w (flat_map (task_actions w) ts ++ ys) [] ≡ recalled w ys []
  tasks_then ts ys = recalled_append w (flat_map (task_actions w) ts) ys [] ∙ ap (recalled w ys) (tasks_recalled w ts)

  at_look : (k p f n : ℕ) → next w k p ≡ Some (look f n) → recalled_at w k p ≡ []
  at_look k p f n is = let t = look_of k p f n is in let b : ℕ = t.b in let o : ℕ = t.o in let q : Task = task w k b in let ts : List Task = tasks_of w.workers k in
      let l = slice_get_within q.waits o t.wait t.waits in let n = task_long q in let m = looks_long q in
      ap (λ (xs : List Action). recalled w xs []) (take_pieces (task_actions w) ts p b o q (slice_get-get_or ts b idle t.exists) (omega arith) t.place)
      ∙ (tasks_then (take b ts) (take o (task_actions w q))
      ∙ (ap (λ (xs : List Action). recalled w xs []) (take_left (looks q) (rows_part w q ++ finish ∷ []) o (omega arith))
      ∙ looks_recalled w q.waits o []))

  at_end : (k p : ℕ) → length (script w k) ≤ p → recalled_at w k p ≡ []
  at_end k p l = ap (λ (xs : List Action). recalled w xs []) (take_all p (script w k) l) ∙ tasks_recalled w (tasks_of w.workers k)

  held_at : (k p g : ℕ) (a : Action) (z : Seen k p g a) → z.at.e ≤ length (instance_at w g).reads
      → kept (mark a) (recalled_at w k p) ≡ read_before w g ++ map (word_before w g) (take z.at.e (instance_at w g).reads)
  held_at k p g a z short = let b : ℕ = z.at.b in let s : ℕ = z.at.s in let r : RowId = z.at.r in let j : ℕ = z.at.j in let e : ℕ = z.at.e in
      let t : Task = task w k b in let ts : List Task = tasks_of w.workers k in let ss : List Instance = insts w r in let x : Instance = get_or ss j nothing in let g' : ℕ = first w r.0 + j in
      let at_j : slice_get ss j ≡ Some x = slice_get-get_or ss j nothing z.at.inside in
      let o : ℕ = offset (first w r.0) ss j + e in
      let o' : ℕ = begins (row_actions w) t.rows s + o in
      let rows_act : slice_get (rows_part w t) o' ≡ Some a = of_pieces (row_actions w) t.rows o' s o r a z.at.standing z.at.begun refl in
      let o'' : ℕ = length (looks t) + o' in
      let task_act : slice_get (task_actions w t) o'' ≡ Some a = at_right (looks t) (rows_part w t ++ finish ∷ []) o'' o' a refl (at_left (rows_part w t) (finish ∷ []) o' a rows_act) in
      let row_long = slice_get_within (row_actions w r) o a z.at.begun in let rows_long = slice_get_within (rows_part w t) o' a rows_act in let long = slice_get_within (task_actions w t) o'' a task_act in
      let place = z.at.place in
      let in_b : b < length ts = has_task ts b s r z.at.standing in
      let e1 : take p (script w k) ≡ flat_map (task_actions w) (take b ts) ++ take o'' (task_actions w t) = take_pieces (task_actions w) ts p b o'' t (slice_get-get_or ts b idle in_b) (omega arith) (omega arith) in
      let e2 : take o'' (task_actions w t) ≡ looks t ++ take o' (rows_part w t) = take_right (looks t) (rows_part w t ++ finish ∷ []) o'' o' refl ∙ ap (λ (l : List Action). looks t ++ l) (take_left (rows_part w t) (finish ∷ []) o' (omega arith)) in
      let e3 : take o' (rows_part w t) ≡ flat_map (row_actions w) (take s t.rows) ++ take o (row_actions w r) = take_pieces (row_actions w) t.rows o' s o r z.at.standing (omega arith) refl in
      let before : List ℤ = recalled w (flat_map (row_actions w) (take s t.rows)) (recalled w (looks t) []) in
      let whole : recalled_at w k p ≡ recalled w (take o (row_actions w r)) before =
      ap (λ (l : List Action). recalled w l []) (e1 ∙ ap (λ (l : List Action). flat_map (task_actions w) (take b ts) ++ l) e2)
      ∙ (tasks_then (take b ts) (looks t ++ take o' (rows_part w t))
      ∙ (recalled_append w (looks t) (take o' (rows_part w t)) []
      ∙ (ap (λ (l : List Action). recalled w l (recalled w (looks t) [])) e3
      ∙ recalled_append w (flat_map (row_actions w) (take s t.rows)) (take o (row_actions w r)) (recalled w (looks t) [])))) in
      let short' : e ≤ length x.reads = subst (λ (v : Instance). e ≤ length v.reads) z.same short in
      let e4 : take o (numbered (first w r.0) ss) ≡ numbered (first w r.0) (take j ss) ++ take e (actions g' x) = take_numbered (first w r.0) ss o j e x at_j short' refl in
      let m = length-map x.reads (read false g') in
      let e5 : take e (actions g' x) ≡ map (read false g') (take e x.reads) = take_left (map (read false g') x.reads) (write_of g' x.target) e (omega arith) ∙ take-map (read false g') e x.reads in
      ap (kept (mark a)) whole
      ∙ (begun_recalled w (numbered (first w r.0) ss) o a before (numbered_plain (first w r.0) ss) z.at.begun
      ∙ (ap (λ (l : List Action). recalled w l []) (e4 ∙ ap (λ (l : List Action). numbered (first w r.0) (take j ss) ++ l) e5)
      ∙ (recalled_append w (numbered (first w r.0) (take j ss)) (map (read false g') (take e x.reads)) []
      ∙ (ap (recalled w (map (read false g') (take e x.reads))) (row_recalled w r.0 j z.row_inside z.at.inside)
      ∙ (reads_recalled w g' (take e x.reads) (read_before w g')
      ∙ (λ d. read_before w (sym z.is d) ++ map (word_before w (sym z.is d)) (take e (sym z.same d).reads)))))))

  at_read : (k p g : ℕ) (b : Bool) (x : Cell) → next w k p ≡ Some (read b g x)
      → (e : ℕ) × (slice_get (instance_at w g).reads e ≡ Some x) × (kept b (recalled_at w k p) ≡ read_before w g ++ map (word_before w g) (take e (instance_at w g).reads))
  at_read k p g b x is = let z = seen k p g (read b g x) is refl in let i = read_part k p g b x z in let l = slice_get_within (instance_at w g).reads z.at.e x i in
      (z.at.e, i, held_at k p g (read b g x) z (omega arith))

  at_write : (k p g : ℕ) (b : Bool) (x : Cell) → next w k p ≡ Some (write b g x) → kept b (recalled_at w k p) ≡ read_with w g
  at_write k p g b x is = let z = seen k p g (write b g x) is refl in let full = (write_part k p g b x z).1 in
      held_at k p g (write b g x) z (omega arith) ∙ ap (λ (l : List Cell). read_before w g ++ map (word_before w g) l) (take_all z.at.e (instance_at w g).reads (omega arith))

  pub laid : Laid w
  laid = record {
    known = known;
    reads = reads;
    writes = writes;
    home = home;
    placed = placed;
    below = below;
    above = above;
    rising = rising;
    at_read = at_read;
    at_write = at_write;
    at_look = at_look;
    at_end = at_end;
    looked = looked;
    had_looked = had_looked;
    past_start = past_start;
    over = over;
    closed = closed;
    few = few_tasks;
    waits = waits;
    goes_on = goes_on;
  }
