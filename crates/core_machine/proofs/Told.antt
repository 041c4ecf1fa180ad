-- What an event of a running core says of its work.
use Rattle.std.proofs.Common.{◌≡◌, ◌↔◌, ℕ, zero, suc, ◌<◌, ◌≤◌, Bool, true, false, cond, leb, Option, Some, None, List, [], ◌∷◌, length, get_or, refl, sym, ap, ◌∙◌, arith}
use Rattle.std.specs.Prelude.{slice_get}
use Rattle.std.proofs.lemmas.Option.{slice_get_past}
use Rattle.core_law.specs.Works as law
use Rattle.core_law.specs.Sequential.{kept}
use Rattle.core_law.specs.Scripts.{Action as LawAction, look, read, write, finish, script, next}
use Rattle.core_law.specs.Machine.{State, Stand, stand_of, place, acted, event}
use Rattle.core_law.specs.Fit.{IsFit}
use Rattle.core_law.specs.Bounds.{HasShape}
use Rattle.core_nest.specs.Nested.{cell_of}
use Rattle.core_nest.specs.NestLaws.{ReadsAsLoop, WritesAsLoop}
use Rattle.core_book.specs.declared.book.Book.{Book}
use Rattle.core_book.specs.declared.book.How.{How}
use Rattle.core_run.specs.declared.action.Action.{Action}
use Rattle.core_run.specs.declared.machine.Core as inner
use Rattle.core_run.specs.declared.machine.Event.{Event}
use Rattle.core_run.specs.declared.machine.Event.TheVariants.{Looked, Read as Found, Wrote, Ended}
use Rattle.core_run.specs.Plain.{told}
use Rattle.core_run.specs.Cores.{core_of, hows_of, stand_in, next_of}
use Rattle.core_run.specs.Links.{Does, at_end, at_look, at_read, at_write, at_finish, IsGood}
use Rattle.core_run.specs.Orders.{Follows}
use Rattle.core_run.proofs.Joined.{of_same}
use Rattle.core_machine.specs.declared.work.Work.{Work}
use Rattle.core_machine.specs.FitWork.{plain}
use Rattle.core_machine.specs.Machine.{Machine, IsRunning}
use Rattle.core_machine.specs.Answers.{answered, answer_of, IsAsInLoop}

abbrev pub machine_of : Work → inner.Core → Machine
machine_of w c = record { work = w; state = core_of c }

told_is : (w : law.Work) (book : Book) (hows : List How) (c : State) (k : ℕ) (a : Option LawAction) (o : Option Action) → Does w book hows a o → told book hows k c (stand_of c k) o ≡ answered w c k a
told_is w book hows c k a o at_end = refl
told_is w book hows c k a o at_look = refl
told_is w book hows c k a o at_read = refl
told_is w book hows c k a o (at_write {b} {g} {x} {at} same) = ap (Wrote x) (sym (same.value (kept b (stand_of c k).registers)))
told_is w book hows c k a o at_finish = refl

past : {A : Type 0} (l : List A) (p : ℕ) → slice_get l p ≡ None → length l ≤ p
past [] p h = omega arith
past (a ∷ l) zero h = absurd (cc)
past (a ∷ l) (suc p) h = let r = past l p h in omega arith

module _ (w : law.Work) (c : State) (k : ℕ) where
  none_ends : (a : Option LawAction) → answered w c k a ≡ Ended → a ≡ None
  none_ends None e = refl
  none_ends (Some (look f n)) e = absurd (cc)
  none_ends (Some (read b g x)) e = absurd (cc)
  none_ends (Some (write b g x)) e = absurd (cc)
  none_ends (Some finish) e = absurd (cc)

  fails : (b : Bool) (d : State) → b ≡ false → cond b d c ≡ c
  fails true d e = absurd (cc)
  fails false d e = refl

  miss_stays : (t : Stand) (a : Option LawAction) (seen need : ℕ) → answered w c k a ≡ Looked seen need false → acted w c k t a ≡ c
  miss_stays t None seen need e = refl
  miss_stays t (Some (look f n)) seen need e =
      let same : leb n (get_or c.counts f 0) ≡ false = cc in
      fails (leb n (get_or c.counts f 0)) _ same
  miss_stays t (Some (read b g x)) seen need e = absurd (cc)
  miss_stays t (Some (write b g x)) seen need e = absurd (cc)
  miss_stays t (Some finish) seen need e = absurd (cc)

  end_stays : (t : Stand) (a : Option LawAction) → a ≡ None → acted w c k t a ≡ c
  end_stays t a e = ap (acted w c k t) e

-- what the event of a worker is
pub record IsEvent (m n : Machine) (k : ℕ) (answer : Event) : Type 0 where
  pub work : n.work ≡ m.work
  pub step : n.state ≡ event (plain m.work) k m.state
  pub answer_is : answer ≡ answer_of m.work m.state k
  pub value : IsAsInLoop m.work m.state k answer
  pub ended : answer ≡ Ended ↔ (length (script (plain m.work) k) ≤ place m.state k)
  pub missed : (seen need : ℕ) → answer ≡ Looked seen need false → n.state ≡ m.state
  pub stays : answer ≡ Ended → n.state ≡ m.state

module _ (w : Work) (c c' : inner.Core) (k : ℕ) (running : IsRunning w c) where
  pub good : IsFit (plain w) → IsGood c
  good fit = record { work = plain w; fit = fit; of = running.of; reached = running.reached; caught = running.caught }

  pub goes_on : (looks passed : ℕ) → Follows c c' (k ∷ []) looks passed → IsRunning w c'
  goes_on looks passed f = record {
    fit = running.fit;
    of = of_same (plain w) c c' f.scripts f.book f.hows f.room running.of;
    reached = (k ∷ running.reached.0, ap (event (plain w) k) running.reached.1 ∙ sym (f.end (plain w) running.of));
    caught = f.good.caught;
  }

  pub events : (answer : Event) (looks passed : ℕ) → Follows c c' (k ∷ []) looks passed
      → answer ≡ told c.book (hows_of c k) k (core_of c) (stand_in c k) (next_of c k)
      → ReadsAsLoop w.nest w.arrays w.values w.sched.workers (core_of c) → WritesAsLoop w.nest w.arrays w.values w.sched.workers (core_of c)
      → IsEvent (machine_of w c) (machine_of w c') k answer
  events answer looks passed f tells reads writes =
      let d : State = core_of c in
      let a : Option LawAction = next (plain w) k (place d k) in
      let is : answer ≡ answered (plain w) d k a = tells ∙ told_is (plain w) c.book (hows_of c k) d k a (next_of c k) (running.of.does k (place d k)) in
      let step : core_of c' ≡ event (plain w) k d = f.end (plain w) running.of in
      record {
        work = refl;
        step = step;
        answer_is = is;
        value = record {
          at_read = λ i j r s p b l at_j at_r here. is ∙ (ap (answered (plain w) d k) here ∙ ap (Found (cell_of p)) (reads k i j r s p b l at_j at_r here));
          at_write = λ i j s b x l at_j here. is ∙ (ap (answered (plain w) d k) here ∙ ap (Wrote x) (writes k i j s b x l at_j here).value);
        };
        ended = (
          λ e. past (script (plain w) k) (place d k) (none_ends (plain w) d k a (sym is ∙ e)),
          λ l. is ∙ ap (answered (plain w) d k) (slice_get_past (script (plain w) k) (place d k) l),
        );
        missed = λ seen need e. step ∙ miss_stays (plain w) d k (stand_of d k) a seen need (sym is ∙ e);
        stays = λ e. step ∙ end_stays (plain w) d k (stand_of d k) a (none_ends (plain w) d k a (sym is ∙ e));
      }

-- the number of a worker is that of a stand
pub worker_stands : (w : Work) (c : inner.Core) (k : ℕ) → HasShape (plain w) (core_of c) → k < length w.sched.workers → k < length c.stands.stands
worker_stands w c k shape l = let n = shape.stands in omega arith
