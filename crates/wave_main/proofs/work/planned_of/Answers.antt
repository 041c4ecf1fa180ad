use Rattle.wave_main.proofs.PlanLaws.{planned_files}
use Rattle.wave_main.proofs.work.planned_of.Goals as goal

pub returns-clause-answer : goal.returns-clause-answer
returns-clause-answer g c inputs are same none =
    let read = c.in_ok-input.ensures.answer inputs are same none in
    (planned_files inputs c.args.workers c.in_ok-input.input c.in_ok-planned.planned read.0 c.in_ok-planned.ensures, read.1)
