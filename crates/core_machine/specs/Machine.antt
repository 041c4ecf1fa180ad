-- What contracts see of a core.
use Rattle.core_law.specs.Machine.{State, Reached}
use Rattle.core_run.specs.declared.machine.Core as inner
use Rattle.core_run.specs.Cores.{core_of}
use Rattle.core_run.specs.Links.{IsOf}
use Rattle.core_run.specs.Seats.{AreCaught}
use Rattle.core_machine.specs.declared.work.Work.{Work}
use Rattle.core_machine.specs.FitWork.{IsFitWork, plain}

-- its work, and the state in which it is
pub record Machine : Type 0 where
  pub work : Work
  pub state : State

-- a fit work's unrolled scripts, in one of its reached states, with each worker's row as far as it says
pub record IsRunning (w : Work) (c : inner.Core) : Type 0 where
  pub fit : IsFitWork w
  pub of : IsOf (plain w) c
  pub reached : Reached (plain w) (core_of c)
  pub caught : AreCaught c.book c.hows.items c.stands
