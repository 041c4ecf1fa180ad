-- What is left of a worker's script where it stands.
use Rattle.std.proofs.Common.{◌≡◌, ℕ, zero, suc, ◌+◌, ◌<◌, ◌≤◌, List, [], ◌∷◌, ◌++◌, length, get_or, take, drop, Option, Some, None, refl, sym, ap, subst, ◌∙◌, append_assoc, arith}
use Rattle.std.specs.Prelude.{slice_get}
use Rattle.std.specs.List.{flat_map}
use Rattle.std.proofs.lemmas.Grind.{flat_map-append}
use Rattle.std.proofs.lemmas.List.{length-append, length-map, length-drop, drop_at, drop-drop, drop-append-le, drop-map, take-append-drop, take_all, get_or_read}
use Rattle.std.proofs.lemmas.Option.{slice_get_within, slice_get_past, slice_get-get_or, get_or_from_slice_get}
use Rattle.wave_base.specs.declared.types.RowId.{RowId}
use Rattle.sched_types.specs.declared.lists.Wait.{Wait}
use Rattle.sched_types.specs.declared.sched.Task.{Task}
use Rattle.core_cells.proofs.Places.{none_is_some, some_same, at_some}
use Rattle.loop_core.specs.Shape.{is_target}
use Rattle.core_value.specs.Taken.{flagged}
use Rattle.core_law.specs.Scripts.{Action, look, finish, looks, task_actions, script}
use Rattle.core_law.specs.Standing.{finished, task_start}
use Rattle.core_law.proofs.Parsed.{task, idle, done_is}
use Rattle.core_machine.specs.declared.work.Work.{Work}
use Rattle.core_machine.specs.FitWork.{IsFitWork, plain}
use Rattle.done_words.specs.declared.view.View.{View}
use Rattle.done_words.specs.declared.view.View.TheVariants.{Spent, Main, Worker as Works}
use Rattle.done_words.specs.Views.{number_of, place_of, after_finish, IsAtEnd, IsAbout, Finishes, begun}
use Rattle.p2p_exec.specs.declared.looks.Miss.{Miss}
use Rattle.p2p_exec.specs.declared.worker.Worker.{Worker}
use Rattle.p2p_exec.specs.Left.{IsLeft}
use Rattle.p2p_exec.specs.Where.{tasks, looks_of, IsAt, IsPastNextFinish}
use Rattle.p2p_exec.specs.Looking.{looks_at, MayLook, Passes, StopsAt}
use Rattle.p2p_exec.specs.Tasks.{rows_actions, MayAct, Acts, AreRows}
use Rattle.p2p_exec.proofs.Lefts.{first_left, next_left, finish_left}

-- lists

cut : {X A : Type 0} (f : X → List A) (xs : List X) (b : ℕ) (x : X) → slice_get xs b ≡ Some x → flat_map f xs ≡ flat_map f (take b xs) ++ (f x ++ flat_map f (drop (suc b) xs))
cut f [] b x e = absurd (none_is_some x e)
cut f (y ∷ xs) zero x e = ap (λ z. f z ++ flat_map f xs) (some_same y x e)
cut f (y ∷ xs) (suc b) x e = ap (λ l. f y ++ l) (cut f xs b x e) ∙ sym (append_assoc (f y) (flat_map f (take b xs)) (f x ++ flat_map f (drop (suc b) xs)))

same_drop : {A : Type 0} (l : List A) (p q : ℕ) → drop p l ≡ drop q l → p ≤ length l → q ≤ length l → p ≡ q
same_drop l p q e a b = let h = ap length e in let m = length-drop p l in let n = length-drop q l in omega arith

module _ (w : Work) (k : ℕ) where
  abbrev all : List Task
  all = tasks w k

  abbrev front : ℕ → List Action
  front b = flat_map (task_actions (plain w)) (take b all)

  abbrev rest : ℕ → List Action
  rest b = flat_map (task_actions (plain w)) (drop b all)

  -- after some looks of a task, the other looks are left, then its rows, its finish and the tasks after it
  abbrev pub task_left : ℕ → Task → ℕ → List Action
  task_left b t j = looks_at (drop j t.waits) ++ (rows_actions w t.rows ++ finish ∷ rest (suc b))

  split : (b : ℕ) (t : Task) → slice_get all b ≡ Some t → script (plain w) k ≡ front b ++ task_left b t 0
  split b t e =
      cut (task_actions (plain w)) all b t e
      ∙ ap (λ (l : List Action). front b ++ l)
      (append_assoc (looks t) (rows_actions w t.rows ++ finish ∷ []) (rest (suc b))
      ∙ ap (λ (l : List Action). looks t ++ l) (append_assoc (rows_actions w t.rows) (finish ∷ []) (rest (suc b))))

  drop_at_look : (b : ℕ) (t : Task) (j : ℕ) → slice_get all b ≡ Some t → j ≤ length t.waits → drop (length (front b) + j) (script (plain w) k) ≡ task_left b t j
  drop_at_look b t j e l =
      let more : List Action = rows_actions w t.rows ++ finish ∷ rest (suc b) in
      ap (drop (length (front b) + j)) (split b t e)
      ∙ (sym (drop-drop j (length (front b)) (front b ++ task_left b t 0))
      ∙ (ap (drop j) (drop_at (front b) (task_left b t 0) (length (front b)) refl)
      ∙ (drop-append-le j (looks t) more (let n = length-map t.waits (λ (wait : Wait). look wait.worker wait.count) in omega arith)
      ∙ ap (λ (l : List Action). l ++ more) (drop-map (λ (wait : Wait). look wait.worker wait.count) j t.waits))))

  look_within : (b : ℕ) (t : Task) (j : ℕ) → slice_get all b ≡ Some t → j ≤ length t.waits → suc (length (front b) + j) ≤ length (script (plain w) k)
  look_within b t j e l =
      let more : List Action = rows_actions w t.rows ++ finish ∷ rest (suc b) in
      let a = ap (λ (z : List Action). length z) (split b t e) in
      let c = length-append (front b) (task_left b t 0) in
      let d = length-append (looks t) more in
      let n = length-map t.waits (λ (wait : Wait). look wait.worker wait.count) in
      let m = length-append (rows_actions w t.rows) (finish ∷ rest (suc b)) in
      omega arith

  -- where the looks of a task from one on are left, the worker's place is at that look
  pub place_at_look : (v : View) (b : ℕ) (t : Task) (j : ℕ) → slice_get all b ≡ Some t → j ≤ length t.waits → IsLeft w k v (task_left b t j) → place_of v ≡ length (front b) + j
  place_at_look v b t j e l left =
      same_drop (script (plain w) k) (place_of v) (length (front b) + j) (left.left ∙ sym (drop_at_look b t j e l)) left.within (let h = look_within b t j e l in omega arith)

  -- where the tasks from one on are left, it is where that task begins
  pub place_at_task : (v : View) (b : ℕ) → IsLeft w k v (rest b) → place_of v ≡ length (front b)
  place_at_task v b left =
      let whole : script (plain w) k ≡ front b ++ rest b =
      ap (flat_map (task_actions (plain w))) (sym (take-append-drop b all)) ∙ flat_map-append (task_actions (plain w)) (take b all) (drop b all) in
      let long = ap (λ (z : List Action). length z) whole in
      let parts = length-append (front b) (rest b) in
      same_drop (script (plain w) k) (place_of v) (length (front b)) (left.left ∙ sym (ap (drop (length (front b))) whole ∙ drop_at (front b) (rest b) (length (front b)) refl)) left.within (omega arith)

-- what is left where a worker stands at a task
pub left_at : (w : Work) (x : Worker) (v : View) (t : Task) → IsAt w x v → slice_get (tasks w x.number) x.task ≡ Some t → IsLeft w x.number v (task_left w x.number x.task t x.looked)
left_at w x v t h e =
    let j : x.looked ≤ length t.waits = subst (λ (o : Option Task). x.looked ≤ looks_of o) e h.looks in
    let within = look_within w x.number x.task t x.looked e j in
    let place = h.place in
    record {
      about = h.about;
      number = h.number;
      left = ap (λ (p : ℕ). drop p (script (plain w) x.number)) place ∙ drop_at_look w x.number x.task t x.looked e j;
      within = omega arith;
    }

-- it stands at another of the task's looks
pub at_look : (w : Work) (x : Worker) (u v : View) (t : Task) (j : ℕ) → IsAt w x u → slice_get (tasks w x.number) x.task ≡ Some t → j ≤ length t.waits
    → IsLeft w x.number v (task_left w x.number x.task t j) → IsAt w (record x { looked = j }) v
at_look w x u v t j h e l left = record {
  about = left.about;
  number = left.number;
  there = h.there;
  within = h.within;
  looks = subst (λ (o : Option Task). j ≤ looks_of o) (sym e) l;
  place = place_at_look w x.number v x.task t j e l left;
  written = h.written;
}

-- it stands at the next task
pub at_next : (w : Work) (x : Worker) (u v : View) (t : Task) → IsAt w x u → slice_get (tasks w x.number) x.task ≡ Some t
    → IsLeft w x.number v (flat_map (task_actions (plain w)) (drop (suc x.task) (tasks w x.number))) → IsAt w (record x { task = suc x.task; looked = 0 }) v
at_next w x u v t h e left =
    let l = slice_get_within (tasks w x.number) x.task t e in
    let p = place_at_task w x.number v (suc x.task) left in
    record {
      about = left.about;
      number = left.number;
      there = h.there;
      within = omega arith;
      looks = omega arith;
      place = omega arith;
      written = h.written;
    }

after_place : (w : Work) (k : ℕ) (v : View) (more : List Action) → IsLeft w k v (finish ∷ more) → place_of (after_finish v) ≡ suc (place_of v)
after_place w k Spent more h = absurd h.about
after_place w k (Main m) more h = absurd (let n = h.number in omega arith)
after_place w k (Works d) more h = refl

pub may_finish : (w : Work) (k : ℕ) (v : View) (more : List Action) → IsLeft w k v (finish ∷ more) → Finishes v
may_finish w k Spent more h = absurd h.about
may_finish w k (Main m) more h = absurd (let n = h.number in omega arith)
may_finish w k (Works d) more h = next_left w k d finish more h

-- the finish of the task at which it stands is its next one
pub past_finish : (w : Work) (x : Worker) (u v : View) (t : Task) → IsAt w x u → slice_get (tasks w x.number) x.task ≡ Some t
    → IsLeft w x.number v (finish ∷ flat_map (task_actions (plain w)) (drop (suc x.task) (tasks w x.number))) → IsPastNextFinish w x.number (place_of u) (place_of (after_finish v))
past_finish w x u v t h e left =
    let k : ℕ = x.number in
    let b : ℕ = x.task in
    let s : List Action = script (plain w) k in
    let f : List Action = front w k b in
    let r : List Action = rest w k (suc b) in
    let body : List Action = looks t ++ rows_actions w t.rows in
    let j : x.looked ≤ length t.waits = subst (λ (o : Option Task). x.looked ≤ looks_of o) e h.looks in
    let place = h.place in
    let same : s ≡ (f ++ body) ++ (finish ∷ r) = split w k b t e
    ∙ (ap (λ (l : List Action). f ++ l) (sym (append_assoc (looks t) (rows_actions w t.rows) (finish ∷ r)))
    ∙ sym (append_assoc f body (finish ∷ r))) in
    let long = ap (λ (l : List Action). length l) same in
    let parts = length-append (f ++ body) (finish ∷ r) in
    let at : place_of v ≡ length (f ++ body) =
    same_drop s (place_of v) (length (f ++ body)) (left.left ∙ sym (ap (drop (length (f ++ body))) same ∙ drop_at (f ++ body) (finish ∷ r) (length (f ++ body)) refl)) left.within (omega arith) in
    let n = length-append f body in
    let m = length-append (looks t) (rows_actions w t.rows) in
    let c = length-map t.waits (λ (wait : Wait). look wait.worker wait.count) in
    let there = slice_get_within (tasks w k) b t e in
    let is_task : task (plain w) k b ≡ t = get_or_from_slice_get (tasks w k) b t idle e in
    let whole : length (task_actions (plain w) (task (plain w) k b)) ≡ suc (length body) =
    ap (λ (z : Task). length (task_actions (plain w) z)) is_task
    ∙ (let y = length-append (looks t) (rows_actions w t.rows ++ finish ∷ []) in let z = length-append (rows_actions w t.rows) (finish ∷ []) in omega arith) in
    let one : finished (plain w) k (place_of v) ≡ b = done_is (plain w) k (place_of v) b (length body) there (omega arith) (omega arith) in
    let two : finished (plain w) k (place_of u) ≡ b = done_is (plain w) k (place_of u) b x.looked there (omega arith) (omega arith) in
    record {
      at = place_of v;
      from = omega arith;
      is_finish = first_left s (place_of v) finish r left.left;
      first = one ∙ sym two;
      past = after_place w k v r left;
    }

-- past its last task it is at its script's end

at_end : (w : Work) (k : ℕ) (v : View) → IsAbout w v → number_of v ≡ suc k → place_of v ≡ length (script (plain w) k) → IsAtEnd v
at_end w k Spent a n p = absurd a
at_end w k (Main m) a n p = absurd (omega arith)
at_end w k (Works d) a n p = let here : k ≡ d.worker = omega arith in p ∙ (λ i. length (script (plain (sym a i)) (here i)))

end_place : (w : Work) (k : ℕ) (v : View) → IsAbout w v → number_of v ≡ suc k → IsAtEnd v → place_of v ≡ length (script (plain w) k)
end_place w k Spent a n p = absurd a
end_place w k (Main m) a n p = absurd (omega arith)
end_place w k (Works d) a n p = let here : d.worker ≡ k = omega arith in p ∙ (λ i. length (script (plain (a i)) (here i)))

pub ended : (w : Work) (x : Worker) (v : View) → IsAt w x v → slice_get (tasks w x.number) x.task ≡ None → IsAtEnd v
ended w x v h e =
    let ts : List Task = tasks w x.number in
    let none : x.looked ≤ 0 = subst (λ (o : Option Task). x.looked ≤ looks_of o) e h.looks in
    let past : length ts ≤ x.task = past_all ts x.task e in
    let whole : flat_map (task_actions (plain w)) (take x.task ts) ≡ script (plain w) x.number = ap (flat_map (task_actions (plain w))) (take_all x.task ts past) in
    let long = ap (λ (l : List Action). length l) whole in
    let place = h.place in
    at_end w x.number v h.about h.number (omega arith)
  where
    past_all : (ts : List Task) (b : ℕ) → slice_get ts b ≡ None → length ts ≤ b
    past_all [] b e = omega arith
    past_all (t ∷ ts) zero e = absurd (cc)
    past_all (t ∷ ts) (suc b) e = let h = past_all ts b e in omega arith

pub not_ended : (w : Work) (x : Worker) (v : View) (t : Task) → IsAt w x v → slice_get (tasks w x.number) x.task ≡ Some t → IsAtEnd v → ⊥
not_ended w x v t h e end =
    let j : x.looked ≤ length t.waits = subst (λ (o : Option Task). x.looked ≤ looks_of o) e h.looks in
    let within = look_within w x.number x.task t x.looked e j in
    let place = h.place in
    let last = end_place w x.number v h.about h.number end in
    omega arith

-- levels rise along a worker's tasks, so a task's place is no more than its level

pub below_level : (w : Work) (k b : ℕ) (t : Task) → IsFitWork w → slice_get (tasks w k) b ≡ Some t → b ≤ t.level
below_level w k zero t fit e = omega arith
below_level w k (suc b) t fit e =
    let l = slice_get_within (tasks w k) (suc b) t e in
    let s = at_some (tasks w k) b (omega arith) in
    let h = below_level w k b s.0 fit s.1 in
    let r = fit.fits.levels_rise k b (suc b) s.0 t (omega arith) s.1 e in
    omega arith

-- the rows of a task are rows of the nest
pub are_rows : (w : Work) (k b : ℕ) (t : Task) → IsFitWork w → slice_get (tasks w k) b ≡ Some t → AreRows w t.rows
are_rows w k b t fit e n row at = fit.fits.rows_alone row (record { worker = k; at = b }) n (t, e, at)

-- What it may do at a task, step by step, and where it stands after that.

module _ (w : Work) (x : Worker) (u : View) (t : Task) (h : IsAt w x u) (e : slice_get (tasks w x.number) x.task ≡ Some t) where
  abbrev behind : List Action
  behind = rest w x.number (suc x.task)

  looks_left : (waits : List Wait) → waits ≡ t.waits → IsLeft w x.number u (looks_at (drop x.looked waits) ++ (rows_actions w t.rows ++ finish ∷ behind))
  looks_left waits is = subst (λ (ws : List Wait). IsLeft w x.number u (looks_at (drop x.looked ws) ++ (rows_actions w t.rows ++ finish ∷ behind))) (sym is) (left_at w x u t h e)

  pub may_look_on : (waits : List Wait) → waits ≡ t.waits → MayLook u (drop x.looked waits)
  may_look_on waits is = (w, x.number, rows_actions w t.rows ++ finish ∷ behind, looks_left waits is)

  pub at_miss : (waits : List Wait) (y : Worker) (v : View) (miss : Miss) → waits ≡ t.waits → y ≡ record x { looked = miss.looked } → StopsAt u waits x.looked v miss → IsAt w y v
  at_miss waits y v miss is ends stops =
      let left : IsLeft w x.number v (task_left w x.number x.task t miss.looked) =
      subst (λ (ws : List Wait). IsLeft w x.number v (looks_at (drop miss.looked ws) ++ (rows_actions w t.rows ++ finish ∷ behind))) is (stops.passed w x.number (rows_actions w t.rows ++ finish ∷ behind) (looks_left waits is)) in
      let before : miss.looked < length t.waits = subst (λ (ws : List Wait). miss.looked < length ws) is stops.before in
      subst (λ (z : Worker). IsAt w z v) (sym ends) (at_look w x u v t miss.looked h e (omega arith) left)

  rows_left : (waits : List Wait) (v : View) → waits ≡ t.waits → Passes u (drop x.looked waits) [] v → IsLeft w x.number v (rows_actions w t.rows ++ finish ∷ behind)
  rows_left waits v is passes = passes w x.number (rows_actions w t.rows ++ finish ∷ behind) (looks_left waits is)

  pub may_run : (waits : List Wait) (rows : List RowId) (v : View) → waits ≡ t.waits → rows ≡ t.rows → Passes u (drop x.looked waits) [] v → MayAct w v (rows_actions w rows)
  may_run waits rows v is are passes =
      (x.number, finish ∷ behind, subst (λ (rs : List RowId). IsLeft w x.number v (rows_actions w rs ++ finish ∷ behind)) (sym are) (rows_left waits v is passes))

  finish_next : (waits : List Wait) (rows : List RowId) (v z : View) → waits ≡ t.waits → rows ≡ t.rows → Passes u (drop x.looked waits) [] v → Acts w v (rows_actions w rows) z → IsLeft w x.number z (finish ∷ behind)
  finish_next waits rows v z is are passes acts =
      acts x.number (finish ∷ behind) (subst (λ (rs : List RowId). IsLeft w x.number v (rows_actions w rs ++ finish ∷ behind)) (sym are) (rows_left waits v is passes))

  pub may_end : (waits : List Wait) (rows : List RowId) (v z : View) → waits ≡ t.waits → rows ≡ t.rows → Passes u (drop x.looked waits) [] v → Acts w v (rows_actions w rows) z → Finishes z
  may_end waits rows v z is are passes acts = may_finish w x.number z behind (finish_next waits rows v z is are passes acts)

  pub at_next_task : (waits : List Wait) (rows : List RowId) (v z last : View) (y : Worker) → waits ≡ t.waits → rows ≡ t.rows → Passes u (drop x.looked waits) [] v → Acts w v (rows_actions w rows) z
      → last ≡ after_finish z → y ≡ record x { task = x.task + 1; looked = 0 } → IsAt w y last
  at_next_task waits rows v z last y is are passes acts seen ends =
      let left : IsLeft w x.number last behind = subst (λ (o : View). IsLeft w x.number o behind) (sym seen) (finish_left w x.number z behind (finish_next waits rows v z is are passes acts)) in
      let one : suc x.task ≡ x.task + 1 = omega arith in
      subst (λ (o : Worker). IsAt w o last) (sym ends) (subst (λ (b : ℕ). IsAt w (record x { task = b; looked = 0 }) last) one (at_next w x u last t h e left))

  pub past_task : (waits : List Wait) (rows : List RowId) (v z last : View) → waits ≡ t.waits → rows ≡ t.rows → Passes u (drop x.looked waits) [] v → Acts w v (rows_actions w rows) z
      → last ≡ after_finish z → IsPastNextFinish w x.number (place_of u) (place_of last)
  past_task waits rows v z last is are passes acts seen =
      subst (λ (o : View). IsPastNextFinish w x.number (place_of u) (place_of o)) (sym seen) (past_finish w x u z t h e (finish_next waits rows v z is are passes acts))

-- the tasks of a worker, as they are found

pub are_tasks : (w : Work) (k : ℕ) (lists : List (List Task)) (own ts : List Task) → lists ≡ w.sched.workers → k < length w.sched.workers → own ≡ get_or lists k own → ts ≡ own → ts ≡ tasks w k
are_tasks w k lists own ts all l found same = same ∙ get_or_read w.sched.workers k own l (found ∙ ap (λ (ls : List (List Task)). get_or ls k own) all) []

pub is_task : (w : Work) (k b : ℕ) (ts : List Task) (t : Task) → ts ≡ tasks w k → b < length ts → t ≡ get_or ts b t → slice_get (tasks w k) b ≡ Some t
is_task w k b ts t own l found = ap (λ (l : List Task). slice_get l b) (sym own) ∙ (slice_get-get_or ts b t l ∙ ap Some (sym found))

pub no_task : (w : Work) (k b : ℕ) (ts : List Task) → ts ≡ tasks w k → length ts ≤ b → slice_get (tasks w k) b ≡ None
no_task w k b ts own l = ap (λ (l : List Task). slice_get l b) (sym own) ∙ slice_get_past ts b l

-- a worker that has done nothing stands where its seat does once it is split
pub starts : (w : Work) (x : Worker) → x.number < length w.sched.workers → x.task ≡ 0 → x.looked ≡ 0 → flagged x.written.items ≡ is_target w.nest → IsAt w x (begun w x.number)
starts w x there task looked written = record {
  about = refl;
  number = refl;
  there = there;
  within = omega arith;
  looks = omega arith;
  place = (let z = ap (λ (b : ℕ). task_start (plain w) (record { worker = x.number; at = b })) task in omega arith);
  written = written;
}
