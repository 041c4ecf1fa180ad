-- What a replay of a running core says of its work.
use Rattle.std.proofs.Common.{◌≡◌, ℕ, ◌<◌, ◌%◌, ◌^◌, List, [], ◌∷◌, ◌++◌, length, sym, ap, subst, ◌∙◌, arith}
use Rattle.std.specs.List.{All}
use Rattle.loop_core.specs.Sequence.{sequential}
use Rattle.core_law.specs.Works as law
use Rattle.core_law.specs.Machine.{State, event, Reached}
use Rattle.core_law.specs.Standing.{HasEnded}
use Rattle.core_law.specs.Bounds.{HasShape}
use Rattle.core_nest.specs.NestLaws.{EndsAsLoop}
use Rattle.core_run.specs.declared.machine.Core as inner
use Rattle.core_run.specs.Cores.{core_of}
use Rattle.core_run.specs.Orders.{runs, laps, looks_in, passed_in, Replayed}
use Rattle.core_machine.specs.declared.work.Work.{Work}
use Rattle.core_machine.specs.FitWork.{IsWorker, plain}
use Rattle.core_machine.specs.Machine.{IsRunning}
use Rattle.core_machine.specs.Replays.{IsReplay}

stays_reached : (w : law.Work) (ks : List ℕ) (c : State) → Reached w c → Reached w (runs w ks c)
stays_reached w [] c r = r
stays_reached w (k ∷ ks) c r = stays_reached w ks (event w k c) (k ∷ r.0, ap (event w k) r.1)

module _ (w : Work) (c c' : inner.Core) (order : List ℕ) (looks passed : ℕ) (running : IsRunning w c) (shape : HasShape (plain w) (core_of c)) (r : Replayed c c' order looks passed) where
  end_is : core_of c' ≡ runs (plain w) (order ++ laps r.rounded.rounds (length c.stands.stands)) (core_of c)
  end_is = r.rounded.follows.end (plain w) running.of

  pub counts : IsReplay w (core_of c) order looks passed
  counts =
      let n : length c.stands.stands ≡ length w.sched.workers = shape.stands in
      record {
        rounds = r.rounded.rounds;
        ended = subst (λ (k : ℕ). HasEnded (plain w) (runs (plain w) (order ++ laps r.rounded.rounds k) (core_of c))) n (subst (HasEnded (plain w)) end_is (r.ended (plain w) running.of));
        least = λ m l e. r.rounded.least (plain w) running.of m l (subst (λ (k : ℕ). HasEnded (plain w) (runs (plain w) (order ++ laps m k) (core_of c))) (sym n) e);
        looks_are = r.rounded.follows.looks_are (plain w) running.of ∙ ap (λ (k : ℕ). looks_in (plain w) (order ++ laps r.rounded.rounds k) (core_of c) % 2 ^ 64) n;
        passed_are = r.rounded.follows.passed_are (plain w) running.of ∙ ap (λ (k : ℕ). passed_in (plain w) (order ++ laps r.rounded.rounds k) (core_of c) % 2 ^ 64) n;
      }

  pub values : ((d : State) → Reached (plain w) d → EndsAsLoop w.nest w.arrays w.values w.sched.workers d) → c'.values ≡ sequential w.nest w.arrays w.values
  values ends =
      let reached : Reached (plain w) (core_of c') = subst (Reached (plain w)) (sym end_is) (stays_reached (plain w) (order ++ laps r.rounded.rounds (length c.stands.stands)) (core_of c) running.reached) in
      ends (core_of c') reached (r.ended (plain w) running.of)

-- the numbers of an order are those of stands
pub order_stands : (w : Work) (c : inner.Core) (order : List ℕ) → HasShape (plain w) (core_of c) → All (IsWorker w) order → All (λ k. k < length c.stands.stands) order
order_stands w c order shape all = λ i d l. let h = all i d l in let n = shape.stands in omega arith
