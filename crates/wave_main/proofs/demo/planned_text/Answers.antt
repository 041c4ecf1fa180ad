use Rattle.std.proofs.Common.{◌≡◌, ◌∙◌, ℤ, List, true, sym, subst}
use Rattle.core_machine.specs.FitWork.{IsFitWork}
use Rattle.core_machine.specs.declared.work.Work as core
use Rattle.loop_core.specs.Lists.{list_of}
use Rattle.loop_core.specs.Sequence.{sequential}
use Rattle.loop_core.specs.Shape.{is_target}
use Rattle.wave_main.specs.Demo.{solved}
use Rattle.wave_main.specs.Planning.{work_of}
use Rattle.wave_main.proofs.DemoLaws.{demo_lines, total_fits}
use Rattle.wave_main.proofs.demo.planned_text.Goals as goal

pub solved_total-requires-clause-fit : goal.solved_total-requires-clause-fit
solved_total-requires-clause-fit g c κs within =
    subst IsFitWork (sym c.in_ok-work.ensures) (c.sound_works_are_fit.ensures (work_of c.args.planned c.args.workers) c.requires.sound)

pub solved_total-requires-clause-writes : goal.solved_total-requires-clause-writes
solved_total-requires-clause-writes g c κs within =
    let P : core.Work → Type 0 = λ w. is_target w.nest solved ≡ true in subst P (sym c.in_ok-work.ensures) c.requires.writes

pub returns : goal.returns
returns g c =
    let work = c.in_ok-work.work in
    let ended : List ℤ = list_of (sequential work.nest work.arrays work.values) solved in
    demo_lines c.args.kind c.args.made (work_of c.args.planned c.args.workers) c.args.planned.verdicts c.in_ok-numbers.numbers c.in_ok-work.work _ c.lines_of.result c.in_ok-numbers.ensures c.in_ok-work.ensures
    (total_fits ended c.in_ok-total.total c.in_ok-total.ensures ∙ c.in_ok-total.ensures) c.lines_of.ensures
