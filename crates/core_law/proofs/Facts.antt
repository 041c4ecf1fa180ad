-- What the invariant gives in one state.
use Rattle.std.proofs.Common.{◌≡◌, ◌⊎◌, ℕ, zero, suc, ◌+◌, ◌<◌, ◌≤◌, Bool, [], length, get_or, take, Some, sym, refl, ap, ◌∙◌, subst, inl, inr, ⊎_elim, arith}
use Rattle.std.specs.Prelude.{Contains}
use Rattle.std.proofs.lemmas.Bool.{cases_lt, cases_eq}
use Rattle.std.proofs.lemmas.Option.{slice_get_within, slice_get-get_or, get_or_from_slice_get}
use Rattle.wave_base.specs.declared.types.Cell.{Cell}
use Rattle.sched_types.specs.declared.lists.Wait.{Wait}
use Rattle.sched_types.specs.declared.sched.Task.{Task}
use Rattle.sched_types.specs.Order.{Spot, IsAt, tasks_of, Before, by_worker, by_wait, through}
use Rattle.core_cells.specs.Cells.{at_cell}
use Rattle.core_law.specs.Works.{Work}
use Rattle.core_law.specs.Numbers.{instance_at, total, row}
use Rattle.core_law.specs.Sequential.{kept, after, word_before, read_with}
use Rattle.core_law.specs.Dependence.{Reads, Writes, Touches}
use Rattle.core_law.specs.Fit.{IsFit}
use Rattle.core_law.specs.Scripts.{Action, look, read, write, finish, script, next}
use Rattle.core_law.specs.Machine.{State, stand_of, place}
use Rattle.core_law.specs.Standing.{finished, IsFinished, Made, CanStep}
use Rattle.core_law.specs.Values.{ReadsRight, WritesRight, EndsRight}
use Rattle.core_law.specs.Registers.{RegistersRight}
use Rattle.core_law.specs.Ordered.{FinishedArePassed, IsOrdered, DependencesAreKept}
use Rattle.core_law.specs.Stepping.{EndedOrSteps}
use Rattle.core_law.specs.Teaching.{Teaches}
use Rattle.core_cells.proofs.Places.{some_same, at_some}
use Rattle.core_law.proofs.Laid.{For, row_of, task_at, PastLooks, Laid}
use Rattle.core_law.proofs.Parsed.{idle}
use Rattle.core_law.proofs.Runs.{after_shape, val_same, val_kept}
use Rattle.core_cells.proofs.Stores.{same_store}
use Rattle.core_law.proofs.Kept.{Inv, finished_rises, earlier, is_worker, recalled_is}

module _ (w : Work) (fit : IsFit w) (laid : Laid w) (c : State) (inv : Inv w c) where
  -- past the looks of a task all that is before it is finished
  before_finished : (u t : Spot) → Before w.workers u t → t.at ≤ get_or c.counts t.worker 0 → PastLooks w t.worker t.at (place c t.worker) → IsFinished c u
  before_finished u t (by_worker lt inside) l past = omega arith
  before_finished u t (by_wait waits) l past =
      let same : past.0 ≡ waits.0 = some_same past.0 waits.0 (sym past.1 ∙ waits.1) in
      let wait : Wait = record { worker = u.worker; count = u.at + 1 } in
      let s = past.2 wait (subst (λ (q : Task). Contains q.waits wait) (sym same) waits.2) in
      let n = inv.looked t.worker s.0 u.worker (u.at + 1) s.2 s.1 in omega arith
  before_finished u t (through {second = v} first second) l past = let done : IsFinished c v = before_finished v t second l past in let e = inv.counted v.worker in
      before_finished u v first (omega arith) (laid.had_looked v.worker v.at (place c v.worker) (omega arith))

  pub ordered : IsOrdered w c
  ordered u t h before = let b = laid.past_start t h.0 (place c t.worker) h.1 h.2 in let e = inv.counted t.worker in before_finished u t before (let l = b.0 in omega arith) b.1

  pub finished_passed : FinishedArePassed w c
  finished_passed t = (
    λ lt. let e = inv.counted t.worker in laid.over t.worker t.at (place c t.worker) (omega arith),
    λ h. let e = inv.counted t.worker in let l = laid.closed t h.0 (place c t.worker) h.1 h.2 in omega arith,
  )

  pub dependences_kept : DependencesAreKept w c
  dependences_kept i j u t at spot dep at_i at_j looked = ordered u t looked (fit.fits.ordered i j dep u t at spot at_i at_j)

  -- of dependent instances in different rows the first's task is before the second's
  rows_ordered : (k p g j q h : ℕ) (x : Cell) → For w k p g → For w j q h → g < h → (row w h ≡ row w g → ⊥) → (Writes w g x × Touches w h x) ⊎ (Touches w g x × Writes w h x)
      → Before w.workers (task_at k (finished w k p)) (task_at j (finished w j q))
  rows_ordered k p g j q h x f f' lt ne clash = let up = laid.rising g h (omega arith) in let a = laid.home k p g f in let b = laid.home j q h f' in let less : row w g < row w h = omega arith in
      fit.fits.ordered (row_of w g) (row_of w h) (less, g, h, laid.known k p g f, laid.known j q h f', refl, refl, x, clash) (task_at k (finished w k p)) (task_at j (finished w j q)) a.0 b.0 a.1 b.1

  for_write : (k p g : ℕ) (b : Bool) (x : Cell) → next w k p ≡ Some (write b g x) → For w k p g
  for_write k p g b x is = (write b g x, is, refl)

  -- the task of an action that is made is past its looks
  made_looked : (j q h : ℕ) → For w j q h → q < place c j → PastLooks w j (finished w j q) (place c j)
  made_looked j q h f lt = let s = laid.looked j q h f in (s.0, s.1, λ wait i. let t = s.2 wait i in let l = t.1 in (t.0, omega arith, t.2))

  -- the worker k has yet to act for the instance g, at p
  module _ (k p g : ℕ) (here : For w k p g) (yet : place c k ≤ p) where
    pub not_made : Made w c g → ⊥
    not_made m = let a = laid.above k p g m.0 m.1 g m.3 m.4 here m.5 (omega arith) refl in let lt : m.1 < place c m.0 = m.2 in
        let lt' : m.1 < place c k = subst (λ (j : ℕ). m.1 < place c j) a.0 lt in let le = a.1 in omega arith

    -- no later write to a cell that it touches is made
    pub later_not_yet : (h : ℕ) (x : Cell) → g < h → Touches w g x → Writes w h x → Made w c h → ⊥
    later_not_yet h x lt touches wr m = let j : ℕ = m.0 in let q : ℕ = m.1 in let in_q : q < place c j = m.2 in let f : For w j q h = for_write j q h m.3 m.4 m.5 in ⊎_elim
        (λ (same : row w h ≡ row w g). let a = laid.above k p g j q h m.3 m.4 here m.5 (omega arith) same in
        let lt' : q < place c k = subst (λ (i : ℕ). q < place c i) a.0 in_q in let le = a.1 in omega arith)
        (λ (ne : row w h ≡ row w g → ⊥). let e = inv.counted k in let e' = inv.counted j in
        let r = finished_rises w j q (place c j) (omega arith) in let r' = finished_rises w k (place c k) p yet in
        let d : finished w k p < get_or c.counts k 0 = before_finished (task_at k (finished w k p)) (task_at j (finished w j q))
        (rows_ordered k p g j q h x here f lt ne (inr (touches, wr))) (omega arith) (made_looked j q h f in_q) in
        omega arith)
        (cases_eq (row w h) (row w g))

  -- the worker k stands in the instance g
  module _ (k g : ℕ) (here : For w k (place c k) g) where
    -- each earlier write to a cell that it touches is made
    pub earlier_made : (h : ℕ) (x : Cell) → h < g → Writes w h x → Touches w g x → Made w c h
    earlier_made h x lt wr touches = let small = laid.known k (place c k) g here in ⊎_elim
        (λ (same : row w h ≡ row w g). let s = laid.below k (place c k) g h x here lt same wr in (k, s.0, s.1, s.2, x, s.3))
        (λ (ne : row w h ≡ row w g → ⊥). let t = laid.placed h x (omega arith) wr in let j : ℕ = t.0 in let q : ℕ = t.1 in let f : For w j q h = for_write j q h t.2 x t.3 in
        let e = inv.counted k in let e' = inv.counted j in
        let d : finished w j q < get_or c.counts j 0 = before_finished (task_at j (finished w j q)) (task_at k (finished w k (place c k)))
        (rows_ordered j q h k (place c k) g x f here lt (λ z. ne (sym z)) (inl (wr, touches))) (omega arith) (laid.looked k (place c k) g here) in
        (j, q, earlier w j q (place c j) (omega arith), t.2, x, t.3))
        (cases_eq (row w h) (row w g))

    pub later_not_made : (h : ℕ) (x : Cell) → g < h → Touches w g x → Writes w h x → Made w c h → ⊥
    later_not_made = later_not_yet k (place c k) g here (omega arith)

    -- a cell that the instance reads holds what the sequential run finds there
    finds : (x : Cell) → Reads w g x → at_cell c.cells x ≡ word_before w g x
    finds x reads = let t = inv.cut x in let m : ℕ = t.0 in let few : m ≤ total w = t.1 in let known = laid.known k (place c k) g here in t.2 ∙ ⊎_elim
        (λ (l : m < g). sym (val_kept w m g x (omega arith) (λ h a b wr. let r = (t.3 h (omega arith) wr).1 (earlier_made h x b wr (inl reads)) in omega arith)))
        (λ (l : g ≤ m). val_kept w g m x l (λ h a b wr. let made = (t.3 h (omega arith) wr).0 b in ⊎_elim
        (λ (e : g ≡ h). not_made k (place c k) g here (omega arith) (subst (Made w c) (sym e) made))
        (λ (ne : g ≡ h → ⊥). later_not_made h x (omega arith) (inl reads) wr made)
        (cases_eq g h)))
        (cases_lt m g)

  pub reads_right : ReadsRight w c
  reads_right k g b x is = finds k g (read b g x, is, refl) x (laid.reads k (place c k) g b x is)

  registers_at_write : (k g : ℕ) (b : Bool) (x : Cell) → next w k (place c k) ≡ Some (write b g x) → kept b (stand_of c k).registers ≡ read_with w g
  registers_at_write k g b x is = ap (kept b) (inv.held k) ∙ laid.at_write k (place c k) g b x is

  pub writes_right : WritesRight w c
  writes_right k g b x is = ap (instance_at w g).value (registers_at_write k g b x is)
      ∙ sym (val_same w fit g x (laid.known k (place c k) g (for_write k (place c k) g b x is)) (laid.writes k (place c k) g b x is))

  pub registers_right : (k : ℕ) → RegistersRight w c k
  registers_right k = record {
    held = inv.held k ∙ recalled_is w (take (place c k) (script w k)) [];
    at_read = λ g b x is. let t = laid.at_read k (place c k) g b x is in (t.0, t.1, ap (kept b) (inv.held k) ∙ t.2);
    at_write = registers_at_write k;
    at_look = λ f n is. inv.held k ∙ laid.at_look k (place c k) f n is;
    at_end = λ l. inv.held k ∙ laid.at_end k (place c k) l;
  }

  -- the task that a worker is in has a level, which falls from a failed look to the worker looked at
  abbrev Current : ℕ → Task → Type 0
  Current k task = IsAt w.workers (task_at k (finished w k (place c k))) task

  abbrev Lower : ℕ → Type 0
  Lower k = (f : ℕ) (task first : Task) → Current k task → Current f first → first.level < task.level → place c f < length (script w f) → (j : ℕ) × CanStep w c j

  step_by : (k : ℕ) → Lower k → (a : Action) → next w k (place c k) ≡ Some a → (j : ℕ) × CanStep w c j
  step_by k lower finish is = (k, (finish, is, tt))
  step_by k lower (read b g x) is = (k, (read b g x, is, tt))
  step_by k lower (write b g x) is = (k, (write b g x, is, tt))
  step_by k lower (look f n) is = ⊎_elim
      (λ (few : get_or c.counts f 0 < n). let t = laid.waits k (place c k) f n is in let e = inv.counted f in
      let wait : Wait = record { worker = f; count = n } in let s = fit.fits.waits_stand (task_at k (finished w k (place c k))) t.0 wait t.1 t.2 in let enough = s.2 in
      let inside : finished w f (place c f) < length (tasks_of w.workers f) = omega arith in
      let first : Task = get_or (tasks_of w.workers f) (finished w f (place c f)) idle in
      let at : Current f first = slice_get-get_or (tasks_of w.workers f) (finished w f (place c f)) idle inside in
      let down = fit.fits.waits_rise (task_at k (finished w k (place c k))) t.0 first wait (finished w f (place c f)) t.1 t.2 (omega arith) at in
      lower f t.0 first t.1 at down (laid.goes_on f (place c f) inside))
      (λ (enough : n ≤ get_or c.counts f 0). (k, (look f n, is, enough)))
      (cases_lt (get_or c.counts f 0) n)

  steps : (fuel k : ℕ) → ((task : Task) → Current k task → task.level < fuel) → place c k < length (script w k) → (j : ℕ) × CanStep w c j
  steps zero k bound there = let s = at_some (script w k) (place c k) there in step_by k (λ f task first at at_first less inside. absurd (let b = bound task at in omega arith)) s.0 s.1
  steps (suc fuel) k bound there = let s = at_some (script w k) (place c k) there in step_by k
      (λ f task first at at_first less inside. steps fuel f (λ q at_q. let b = bound task at in let e = ap (λ (z : Task). z.level) (some_same first q (sym at_first ∙ at_q)) in omega arith) inside)
      s.0 s.1

  goes_on : (k : ℕ) → place c k < length (script w k) → (j : ℕ) × CanStep w c j
  goes_on k there = let d : Task = get_or (tasks_of w.workers k) (finished w k (place c k)) idle in
      steps (suc d.level) k (λ q at. let e = ap (λ (z : Task). z.level) (get_or_from_slice_get (tasks_of w.workers k) (finished w k (place c k)) q idle at) in omega arith) there

  -- whether each of the first workers is at its end
  ended_or : (n : ℕ) → ((k : ℕ) → k < n → length (script w k) ≤ place c k) ⊎ ((k : ℕ) × (place c k < length (script w k)))
  ended_or zero = inl (λ k l. absurd (omega arith))
  ended_or (suc n) = ⊎_elim
      (λ (l : place c n < length (script w n)). inr (n, l))
      (λ (l : length (script w n) ≤ place c n). ⊎_elim
      (λ (all : (k : ℕ) → k < n → length (script w k) ≤ place c k). inl (λ k b. ⊎_elim
      (λ (e : k ≡ n). subst (λ (i : ℕ). length (script w i) ≤ place c i) (sym e) l)
      (λ (ne : k ≡ n → ⊥). all k (omega arith))
      (cases_eq k n)))
      inr
      (ended_or n))
      (cases_lt (place c n) (length (script w n)))

  pub ended_or_steps : EndedOrSteps w c
  ended_or_steps = ⊎_elim (λ e. inl e) (λ t. inr (goes_on t.0 t.1)) (ended_or (length w.workers))

  pub ends_right : EndsRight w c
  ends_right ended = same_store c.cells (after w (total w)).cells (inv.cells_shape ∙ sym (after_shape w (total w))) (λ x. let t = inv.cut x in let m : ℕ = t.0 in
      t.2 ∙ sym (val_kept w m (total w) x t.1 (λ h low high wr. let p = laid.placed h x high wr in let z = ended p.0 (is_worker w p.0 p.1 (write p.2 h x) p.3) in
      let inside = slice_get_within (script w p.0) p.1 (write p.2 h x) p.3 in let r = (t.3 h high wr).1 (p.0, p.1, omega arith, p.2, x, p.3) in omega arith)))

  -- what a passed look teaches
  pub teaches : Teaches w c
  teaches k q f n is past = (
    inv.looked k q f n is past,
    λ p g h b at begins x yet reads last standing less.
        let here : For w k p g = (read begins g x, reads, refl) in let known = laid.known k p g here in let touches : Touches w g x = inl (laid.reads k p g begins x reads) in
        let before = last.before in let t = laid.placed h x (omega arith) last.writes in let j : ℕ = t.0 in
        let z = laid.home j t.1 h (for_write j t.1 h t.2 x t.3) in
        let same = fit.fits.once (row_of w h) (task_at j (finished w j t.1)) (task_at f b) z.0 at z.1 standing in
        let same_worker : j ≡ f = ap (λ (u : Spot). u.worker) same.0 in let same_task : finished w j t.1 ≡ b = ap (λ (u : Spot). u.at) same.0 in
        let enough = inv.looked k q f n is past in let e = inv.counted j in let e' = ap (λ (i : ℕ). get_or c.counts i 0) same_worker in
        let made : Made w c h = (j, t.1, earlier w j t.1 (place c j) (omega arith), t.2, x, t.3) in
        let r = inv.cut x in let m : ℕ = r.0 in let few : m ≤ total w = r.1 in let in_m : h < m = (r.3 h (omega arith) last.writes).1 made in
        r.2 ∙ val_kept w (suc h) m x (omega arith) (λ h' low high wr. let made' = (r.3 h' (omega arith) wr).0 high in ⊎_elim
        (λ (early : h' < g). last.none_between h' (omega arith) early wr)
        (λ (after_g : g ≤ h'). ⊎_elim
        (λ (s : g ≡ h'). not_made k p g here yet (subst (Made w c) (sym s) made'))
        (λ (ne : g ≡ h' → ⊥). later_not_yet k p g here yet h' x (omega arith) touches wr made')
        (cases_eq g h'))
        (cases_lt h' g)),
  )
