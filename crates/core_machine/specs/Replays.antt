-- What an order of events, and whole rounds after it, come to.
use Rattle.std.specs.Prelude.{◌≡◌, ℕ, ◌%◌, ◌^◌, ◌<◌, List, ◌++◌, length}
use Rattle.core_law.specs.Machine.{State}
use Rattle.core_law.specs.Standing.{HasEnded}
use Rattle.core_run.specs.Orders.{runs, looks_in, passed_in, laps}
use Rattle.core_machine.specs.declared.work.Work.{Work}
use Rattle.core_machine.specs.FitWork.{plain}

-- the events of an order, and then of so many rounds of all workers
abbrev pub with_rounds : Work → List ℕ → ℕ → List ℕ
with_rounds w order rounds = order ++ laps rounds (length w.sched.workers)

-- the least number of whole rounds after which all have ended; the looks, and those that passed, modulo 2 ^ 64
pub record IsReplay (w : Work) (c : State) (order : List ℕ) (looks passed : ℕ) : Type 0 where
  pub rounds : ℕ
  pub ended : HasEnded (plain w) (runs (plain w) (with_rounds w order rounds) c)
  pub least : (m : ℕ) → m < rounds → HasEnded (plain w) (runs (plain w) (with_rounds w order m) c) → ⊥
  pub looks_are : looks ≡ looks_in (plain w) (with_rounds w order rounds) c % 2 ^ 64
  pub passed_are : passed ≡ passed_in (plain w) (with_rounds w order rounds) c % 2 ^ 64
