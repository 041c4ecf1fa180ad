-- The steps, by the view of a seat.
use Rattle.std.proofs.Common.{w64, ◌≡◌, ℕ, suc, ◌+◌, ◌<◌, ◌^◌, ℤ, Bool, true, false, cond, leb, Option, Some, None, List, [], ◌∷◌, length, get_or, sym, refl, ap, ◌∙◌, subst, arith, add-zero}
use Rattle.std.proofs.lemmas.Int.{to_z-of_z}
use mathlib.Core.Option.{none}
use mathlib.Core.Logic.{∥∥₁_elim}
use lib.IntN.{ℤ_set}
use Rattle.atomic_table.specs.Table.{step, Allows, Splits, Joins}
use Rattle.wave_base.specs.declared.types.Cell.{Cell}
use Rattle.sched_types.specs.Fits.{Stands}
use Rattle.loop_core.specs.Sequence.{sequential_read}
use Rattle.core_cells.specs.Cells.{at_cell}
use Rattle.core_law.specs.Numbers.{row}
use Rattle.core_law.specs.Sequential.{word_before}
use Rattle.core_law.specs.Scripts.{Action, look, read, write, finish, next}
use Rattle.core_law.specs.Machine.{State, Stand, place, Reached}
use Rattle.core_law.specs.Standing.{finishes, finished}
use Rattle.core_law.specs.Teaching.{IsLast}
use Rattle.core_run.specs.declared.machine.Event.TheVariants.{Read as Found}
use Rattle.core_rows.specs.RowLaws.{number}
use Rattle.core_nest.specs.Nested.{cell_of}
use Rattle.core_nest.specs.NestLaws.{ReadsAsLoop}
use Rattle.core_machine.specs.declared.work.Work.{Work}
use Rattle.core_machine.specs.FitWork.{IsFitWork, plain}
use Rattle.done_words.specs.declared.view.Doing.{Doing}
use Rattle.done_words.specs.declared.view.View.{View}
use Rattle.done_words.specs.declared.view.View.TheVariants.{Spent, Main, Worker}
use Rattle.done_words.specs.WordsOf.{word_of, value_of, word_number}
use Rattle.done_words.specs.Views.{begun, one_more, made_next, taken_back, next_of, passed, missed, look_by, after_look, read_by, after_read, write_by, after_write, after_finish, Looks, Reads, Writes, Finishes, IsAtEnd, number_of, tasks_done, leads, made_of, IsAbout}
use Rattle.done_words.specs.Rule.{Table, Keeps}
use Rattle.done_words.specs.Told.{Loaded, HasRisen, Teaches, ReadsAsInLoop, looked, has_read, has_written, has_finished}
use Rattle.done_words.specs.Sound.{IsSound}
use Rattle.done_words.proofs.Touched.{IsShared, one_on, worker_is, look_inside, few, read_is, write_is, taught_count, taught_value, cell_fits}
use Rattle.done_words.proofs.Kept.{mine, count_is, cell_is, looks, reads, writes, finishes as finishes_step, splits, joins}

abbrev cell_named : Cell → Option Action → Cell
cell_named x (Some (read b g cell)) = cell
cell_named x a = x

same_cell : {b b' : Bool} {g g' : ℕ} {x y : Cell} → Some (read b g x) ≡ Some (read b' g' y) → x ≡ y
same_cell {x = x} e = ap (cell_named x) e

no_write : {b b' : Bool} {g g' : ℕ} {x y : Cell} → Some (read b g x) ≡ Some (write b' g' y) → ⊥
no_write e = cc

module _ (w : Work) (sound : ∥ IsSound w ∥₁) where
  on_work : (d : Doing) (a : Option Action) → d.work ≡ w → next_of d ≡ a → next (plain w) d.worker d.place ≡ a
  on_work d a about is = ap (λ (u : Work). next (plain u) d.worker d.place) (sym about) ∙ is

  -- what the next action names is there

  pub look_there : (v : View) (f : ℕ) → IsAbout w v → Looks v f → f < length w.sched.workers
  look_there Spent f about is = absurd is
  look_there (Main m) f about is = absurd is
  look_there (Worker d) f about is = look_inside w sound d.worker d.place f is.0 (on_work d (Some (look f is.0)) about is.1)

  pub read_there : (v : View) (cell : Cell) → IsAbout w v → Reads v cell → IsShared w cell
  read_there Spent cell about is = absurd is
  read_there (Main m) cell about is = absurd is
  read_there (Worker d) cell about is = read_is w sound d.worker d.place is.0 is.1 cell (on_work d (Some (read is.0 is.1 cell)) about is.2)

  pub write_there : (v : View) (cell : Cell) (n : ℤ) → IsAbout w v → Writes v cell n → IsShared w cell
  write_there Spent cell n about is = absurd is
  write_there (Main m) cell n about is = absurd is
  write_there (Worker d) cell n about is = write_is w sound d.worker d.place is.0 is.1 cell (on_work d (Some (write is.0 is.1 cell)) about is.2)

  pub finish_there : (v : View) (k : ℕ) → IsAbout w v → Finishes v → number_of v ≡ k + 1 → k < length w.sched.workers
  finish_there Spent k about is number = absurd is
  finish_there (Main m) k about is number = absurd is
  finish_there (Worker d) k about is number = let h = worker_is w sound d.worker d.place finish (on_work d (Some finish) about is) in omega arith

  pub count_small : (v : View) → IsAbout w v → Finishes v → tasks_done v + 1 < 2 ^ 64
  count_small Spent about is = absurd is
  count_small (Main m) about is = absurd is
  count_small (Worker d) about is =
      let h = few w sound d.worker d.place (on_work d (Some finish) about is) in
      let e = ap (λ (u : Work). finished (plain u) d.worker d.place) about in
      omega arith

  -- each step is allowed

  pub view_looks : (slots id : ℕ) (v : View) (held : List (ℕ × Unit {0})) (f : ℕ) → IsAbout w v → Looks v f
      → Allows (Keeps w) slots id (v, held) f (λ n. n) (looked (step slots f 0 0 none) (v, held))
  view_looks slots id Spent held f about is = absurd is
  view_looks slots id (Main m) held f about is = absurd is
  view_looks slots id (Worker d) held f about is = looks w sound slots id d held f is.0 is.1 (look_there (Worker d) f about is)

  pub view_reads : (slots id : ℕ) (v : View) (held : List (ℕ × Unit {0})) (cell : Cell) (i : ℕ) → i ≡ word_number w cell → IsAbout w v → Reads v cell
      → Allows (Keeps w) slots id (v, held) i (λ n. n) (has_read (step slots i 0 0 none) (v, held))
  view_reads slots id Spent held cell i at about is = absurd is
  view_reads slots id (Main m) held cell i at about is = absurd is
  view_reads slots id (Worker d) held cell i at about is = reads w sound slots id d held is.0 is.1 cell i at (read_there (Worker d) cell about is) is.2

  pub view_writes : (slots id : ℕ) (v : View) (held : List (ℕ × Unit {0})) (cell : Cell) (n : ℤ) (i u : ℕ) → i ≡ word_number w cell → u ≡ word_of n → IsAbout w v → Writes v cell n
      → Allows (Keeps w) slots id (v, held) i (λ _. u) (λ _. has_written (step slots i u 0 none) (v, held) u)
  view_writes slots id Spent held cell n i u at is_u about is = absurd is
  view_writes slots id (Main m) held cell n i u at is_u about is = absurd is
  view_writes slots id (Worker d) held cell n i u at is_u about is = writes w sound slots id d held is.0 is.1 cell n i u at is_u (write_there (Worker d) cell n about is) is.2 is.3

  pub view_finishes : (slots id : ℕ) (v : View) (held : List (ℕ × Unit {0})) (k n : ℕ) → Finishes v → number_of v ≡ k + 1 → tasks_done v ≡ n
      → Allows (Keeps w) slots id (v, held) k (λ _. n + 1) (λ _. has_finished (step slots k (n + 1) 0 none) (v, held) (n + 1))
  view_finishes slots id Spent held k n is number done = absurd is
  view_finishes slots id (Main m) held k n is number done = absurd is
  view_finishes slots id (Worker d) held k n is number done = let e : d.worker ≡ k = omega arith in
      subst (λ (j : ℕ). Allows (Keeps w) slots id (Worker d, held) j (λ _. n + 1) (λ _. has_finished (step slots j (n + 1) 0 none) (Worker d, held) (n + 1))) e (finishes_step w sound slots id d held n is done)

  pub view_splits : (id : ℕ) (v : View) → leads v ≡ 1 → made_of v < length w.sched.workers → Splits (Keeps w) id v (one_more v) (made_next v)
  view_splits id Spent is room = absurd (omega arith)
  view_splits id (Main m) is room = splits w id m room
  view_splits id (Worker d) is room = absurd (omega arith)

  pub view_joins : (id other : ℕ) (v u : View) → leads v ≡ 1 → IsAtEnd u → Joins (Keeps w) id v other u (taken_back v u) Spent
  view_joins id other Spent u is end = absurd (omega arith)
  view_joins id other (Worker d) u is end = absurd (omega arith)
  view_joins id other (Main m) Spent is end = absurd end
  view_joins id other (Main m) (Main m') is end = absurd end
  view_joins id other (Main m) (Worker d) is end = joins w id other m d end

  -- what is told

  pub risen : (v : View) (f n : ℕ) → IsAbout w v → Looks v f → Loaded v f n → HasRisen v f n
  risen Spent f n about is h = tt
  risen (Main m) f n about is h = tt
  risen (Worker d) f n about is h = λ q need at_q before.
      let s : Table = h.0 in
      let r : Keeps w s = subst (λ (u : Work). Keeps u s) about h.1 in
      let m = mine w s r (suc d.worker) d h.2 in
      let place_is = ap (λ (t : Stand). t.place) m.3 in
      let at : next (plain w) d.worker q ≡ Some (look f need) = ap (λ (u : Work). next (plain u) d.worker q) (sym about) ∙ at_q in
      let c = taught_count w sound r.state r.reached d.worker q f need at (omega arith) in
      let e = count_is w sound s r (suc d.worker) d h.2 f (look_there (Worker d) f about is) in
      let l = h.3 in
      omega arith

  pub taught : (v : View) (f : ℕ) → IsAbout w v → Looks v f → Teaches v f
  taught Spent f about is = tt
  taught (Main m) f about is = tt
  taught (Worker d) f about is = λ s e need keeps same_work at_e at_look behind.
      let r : Keeps w s = subst (λ (u : Work). Keeps u s) about keeps in
      let m = mine w s r (suc d.worker) e at_e in
      let same : d.worker ≡ e.worker = (let n = m.0 in omega arith) in
      let place_is = ap (λ (t : Stand). t.place) m.3 in
      let at : next (plain w) e.worker d.place ≡ Some (look f need) = ap (λ (k : ℕ). next (plain w) k d.place) (sym same) ∙ on_work d (Some (look f need)) about at_look in
      let count = taught_count w sound r.state r.reached e.worker d.place f need at (omega arith) in
      let word = count_is w sound s r (suc d.worker) e at_e f (look_there (Worker d) f about is) in
      record {
        finished = omega arith;
        final = λ p g h b spot begins cell past at_p last stands below.
            let on : e.work ≡ w = m.1 in
            let at_p' : next (plain w) e.worker p ≡ Some (read begins g cell) = ap (λ (u : Work). next (plain u) e.worker p) (sym on) ∙ at_p in
            let last' : IsLast (plain w) h g cell = subst (λ (u : Work). IsLast (plain u) h g cell) on last in
            let stands' : Stands w.sched.workers (record { 0 = row (plain w) h }) (record { worker = f; at = b }) spot = subst (λ (u : Work). Stands u.sched.workers (record { 0 = row (plain u) h }) (record { worker = f; at = b }) spot) on stands in
            let value = taught_value w sound r.state r.reached e.worker d.place f need at (omega arith) p g h b spot begins cell (omega arith) at_p' last' stands' below in
            ap (λ (u : Work). get_or s.words (word_number u cell) 0) on
            ∙ (cell_is w sound s r (suc d.worker) e at_e cell (read_is w sound e.worker p begins g cell at_p')
            ∙ (ap word_of value ∙ ap (λ (u : Work). word_of (word_before (plain u) (suc h) cell)) (sym on)));
      }

  pub reads_in : (v : View) (cell : Cell) (i u : ℕ) (value : ℤ) → ((u : Work) (c : State) → IsFitWork u → Reached (plain u) c → ReadsAsLoop u.nest u.arrays u.values u.sched.workers c)
      → IsAbout w v → Reads v cell → i ≡ word_number w cell → Loaded v i u → value ≡ value_of u → ReadsAsInLoop v cell value
  reads_in Spent cell i u value law about is at h same = tt
  reads_in (Main m) cell i u value law about is at h same = tt
  reads_in (Worker d) cell i u value law about is at h same =
      let s : Table = h.0 in
      let r : Keeps d.work s = h.1 in
      let own : ∥ IsSound d.work ∥₁ = subst (λ (z : Work). ∥ IsSound z ∥₁) (sym about) sound in
      let m = mine d.work s r (suc d.worker) d h.2 in
      let shared = read_is d.work own d.worker d.place is.0 is.1 cell is.2 in
      let number_is : i ≡ word_number d.work cell = at ∙ ap (λ (z : Work). word_number z cell) (sym about) in
      let found : value ≡ at_cell r.state.cells cell =
      same
      ∙ (ap value_of (sym h.3 ∙ (ap (λ (k : ℕ). get_or s.words k 0) number_is ∙ cell_is d.work own s r (suc d.worker) d h.2 cell shared))
      ∙ to_z-of_z w64 (at_cell r.state.cells cell) (cell_fits d.work own r.state r.reached cell shared.small))
      in
      let next_is : next (plain d.work) d.worker (place r.state d.worker) ≡ Some (read is.0 is.1 cell) = ap (λ (t : Stand). next (plain d.work) d.worker t.place) m.3 ∙ is.2 in (
        r.state,
        r.reached,
        m.3,
        record {
          at_read = λ row k q one p begins l at_k at_q there.
              let cells : cell ≡ cell_of p = same_cell (sym next_is ∙ there) in
              let read_there : at_cell r.state.cells (cell_of p) ≡ sequential_read d.work.nest d.work.arrays d.work.values row k q = ∥∥₁_elim own (ℤ_set _ _) (λ z. law d.work r.state z.fit r.reached d.worker row k q one p begins l at_k at_q there) in
              let value_is = found ∙ (ap (at_cell r.state.cells) cells ∙ read_there) in
              λ n. Found (cells n) (value_is n);
          at_write = λ row k one begins other l at_k there. absurd (no_write (sym next_is ∙ there));
        },
      )

  -- a step keeps the work

  about_look : (d : Doing) (f n : ℕ) (a : Option Action) → d.work ≡ w → IsAbout w (look_by d f n a)
  about_look d f n None h = h
  about_look d f n (Some (look g need)) h = by (leb need n)
    where
      by : (b : Bool) → IsAbout w (cond b (passed d) (missed d f n need))
      by true = h
      by false = h
  about_look d f n (Some (read b g x)) h = h
  about_look d f n (Some (write b g x)) h = h
  about_look d f n (Some finish) h = h

  pub still_about_look : (v : View) (f n : ℕ) → IsAbout w v → IsAbout w (after_look v f n)
  still_about_look Spent f n h = h
  still_about_look (Main m) f n h = h
  still_about_look (Worker d) f n h = about_look d f n (next_of d) h

  about_read : (d : Doing) (n : ℤ) (a : Option Action) → d.work ≡ w → IsAbout w (read_by d n a)
  about_read d n None h = h
  about_read d n (Some (look g need)) h = h
  about_read d n (Some (read b g x)) h = h
  about_read d n (Some (write b g x)) h = h
  about_read d n (Some finish) h = h

  pub still_about_read : (v : View) (n : ℤ) → IsAbout w v → IsAbout w (after_read v n)
  still_about_read Spent n h = h
  still_about_read (Main m) n h = h
  still_about_read (Worker d) n h = about_read d n (next_of d) h

  about_write : (d : Doing) (a : Option Action) → d.work ≡ w → IsAbout w (write_by d a)
  about_write d None h = h
  about_write d (Some (look g need)) h = h
  about_write d (Some (read b g x)) h = h
  about_write d (Some (write b g x)) h = h
  about_write d (Some finish) h = h

  pub still_about_write : (v : View) → IsAbout w v → IsAbout w (after_write v)
  still_about_write Spent h = h
  still_about_write (Main m) h = h
  still_about_write (Worker d) h = about_write d (next_of d) h

  pub still_about_finish : (v : View) → IsAbout w v → IsAbout w (after_finish v)
  still_about_finish Spent h = h
  still_about_finish (Main m) h = h
  still_about_finish (Worker d) h = h

  pub still_about_one_more : (v : View) → IsAbout w v → IsAbout w (one_more v)
  still_about_one_more Spent h = h
  still_about_one_more (Main m) h = h
  still_about_one_more (Worker d) h = h

  pub still_about_taken_back : (v u : View) → IsAbout w v → IsAbout w (taken_back v u)
  still_about_taken_back Spent u h = h
  still_about_taken_back (Main m) Spent h = h
  still_about_taken_back (Main m) (Main n) h = h
  still_about_taken_back (Main m) (Worker d) h = h
  still_about_taken_back (Worker d) u h = h

  pub made_is : (v : View) → leads v ≡ 1 → IsAbout w v → made_next v ≡ begun w (made_of v)
  made_is Spent is h = absurd (omega arith)
  made_is (Main m) is h = ap (λ (u : Work). begun u m.made) h
  made_is (Worker d) is h = absurd (omega arith)

-- the number of a worker after its step

look_number : (d : Doing) (f n : ℕ) (a : Option Action) → number_of (look_by d f n a) ≡ suc d.worker
look_number d f n None = refl
look_number d f n (Some (look g need)) = by (leb need n)
  where
    by : (b : Bool) → number_of (cond b (passed d) (missed d f n need)) ≡ suc d.worker
    by true = refl
    by false = refl
look_number d f n (Some (read b g x)) = refl
look_number d f n (Some (write b g x)) = refl
look_number d f n (Some finish) = refl

pub number_look : (v : View) (f n : ℕ) → number_of (after_look v f n) ≡ number_of v
number_look Spent f n = refl
number_look (Main m) f n = refl
number_look (Worker d) f n = look_number d f n (next_of d)

read_number : (d : Doing) (n : ℤ) (a : Option Action) → number_of (read_by d n a) ≡ suc d.worker
read_number d n None = refl
read_number d n (Some (look g need)) = refl
read_number d n (Some (read b g x)) = refl
read_number d n (Some (write b g x)) = refl
read_number d n (Some finish) = refl

pub number_read : (v : View) (n : ℤ) → number_of (after_read v n) ≡ number_of v
number_read Spent n = refl
number_read (Main m) n = refl
number_read (Worker d) n = read_number d n (next_of d)

write_number : (d : Doing) (a : Option Action) → number_of (write_by d a) ≡ suc d.worker
write_number d None = refl
write_number d (Some (look g need)) = refl
write_number d (Some (read b g x)) = refl
write_number d (Some (write b g x)) = refl
write_number d (Some finish) = refl

pub number_write : (v : View) → number_of (after_write v) ≡ number_of v
number_write Spent = refl
number_write (Main m) = refl
number_write (Worker d) = write_number d (next_of d)

pub number_finish : (v : View) → number_of (after_finish v) ≡ number_of v
number_finish Spent = refl
number_finish (Main m) = refl
number_finish (Worker d) = refl

-- and the tasks that it has done

on_by : (d : Doing) (a : Action) → next_of d ≡ Some a → finished (plain d.work) d.worker (suc d.place) ≡ tasks_done (Worker d) + finishes (a ∷ [])
on_by d a is = one_on d.work d.worker d.place a is

look_done : (d : Doing) (f n g need : ℕ) → next_of d ≡ Some (look g need) → (b : Bool) → tasks_done (cond b (passed d) (missed d f n need)) ≡ tasks_done (Worker d)
look_done d f n g need is true = on_by d (look g need) is ∙ add-zero _
look_done d f n g need is false = refl

pub done_look : (v : View) (f n : ℕ) → Looks v f → tasks_done (after_look v f n) ≡ tasks_done v
done_look Spent f n is = absurd is
done_look (Main m) f n is = absurd is
done_look (Worker d) f n is = ap (λ (a : Option Action). tasks_done (look_by d f n a)) is.1 ∙ look_done d f n f is.0 is.1 (leb is.0 n)

pub done_read : (v : View) (x : Cell) (n : ℤ) → Reads v x → tasks_done (after_read v n) ≡ tasks_done v
done_read Spent x n is = absurd is
done_read (Main m) x n is = absurd is
done_read (Worker d) x n is = ap (λ (a : Option Action). tasks_done (read_by d n a)) is.2 ∙ (on_by d (read is.0 is.1 x) is.2 ∙ add-zero _)

pub done_write : (v : View) (x : Cell) (n : ℤ) → Writes v x n → tasks_done (after_write v) ≡ tasks_done v
done_write Spent x n is = absurd is
done_write (Main m) x n is = absurd is
done_write (Worker d) x n is = ap (λ (a : Option Action). tasks_done (write_by d a)) is.2 ∙ (on_by d (write is.0 is.1 x) is.2 ∙ add-zero _)

pub done_finish : (v : View) → Finishes v → tasks_done (after_finish v) ≡ tasks_done v + 1
done_finish Spent is = absurd is
done_finish (Main m) is = absurd is
done_finish (Worker d) is = on_by d finish is

pub none_done : (w : Work) (k : ℕ) → tasks_done (begun w k) ≡ 0
none_done w k = refl

pub leads_on : (v : View) → leads (one_more v) ≡ leads v
leads_on Spent = refl
leads_on (Main m) = refl
leads_on (Worker d) = refl

pub leads_back : (v u : View) → leads (taken_back v u) ≡ leads v
leads_back Spent u = refl
leads_back (Main m) Spent = refl
leads_back (Main m) (Main n) = refl
leads_back (Main m) (Worker d) = refl
leads_back (Worker d) u = refl
