use Rattle.std.proofs.Common.{sym, subst}
use Rattle.core_machine.specs.FitWork.{IsFitWork}
use Rattle.wave_main.specs.Planning.{work_of}
use Rattle.wave_main.proofs.PlanLaws.{ran_work}
use Rattle.wave_main.proofs.run.planned_text.Goals as goal

pub ran-requires-clause-fit : goal.ran-requires-clause-fit
ran-requires-clause-fit g c κs within =
    subst IsFitWork (sym c.in_ok-work.ensures) (c.sound_works_are_fit.ensures (work_of c.args.planned c.args.workers) c.requires.sound)

pub returns : goal.returns
returns g c =
    ran_work (work_of c.args.planned c.args.workers) c.args.planned.verdicts c.in_ok-numbers.numbers c.in_ok-work.work c.ran.result c.in_ok-numbers.ensures c.in_ok-work.ensures c.ran.ensures
