use Rattle.std.proofs.Common.{sym, subst}
use Rattle.core_machine.specs.FitWork.{IsFitWork}
use Rattle.wave_main.specs.Planning.{work_of}
use Rattle.bench_team.proofs.work_of.Goals as goal

pub returns : goal.returns
returns g c =
    subst IsFitWork (sym c.in_ok-work.ensures) (c.sound_works_are_fit.ensures (work_of c.in_ok-planned.planned c.args.workers) c.in_ok-planned.ensures.sound)
