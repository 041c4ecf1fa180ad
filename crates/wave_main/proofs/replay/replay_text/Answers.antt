use Rattle.std.proofs.Common.{◌∙◌}
use Rattle.wave_main.proofs.PlanLaws.{planned_files, replay_of}
use Rattle.wave_main.proofs.replay.replay_text.Goals as goal

pub returns : goal.returns
returns g c inputs are same one =
    let made = c.in_ok-ordered.ensures.answer inputs are same one in
    let planned = planned_files inputs c.args.workers c.in_ok-ordered.ordered.input c.in_ok-planned.planned made.0.input c.in_ok-planned.ensures in
    let order = c.as_slice.ensures.value ∙ made.0.order in
    (replay_of inputs c.args.workers c.in_ok-planned.planned c.as_slice.result.now _ planned order c.in_ok-text.ensures, made.1)
