use Rattle.std.proofs.Common.{◌≡◌, true, sym, subst}
use Rattle.loop_core.specs.Shape.{is_target}
use Rattle.wave_main.specs.declared.input.Input.{Input}
use Rattle.wave_main.specs.Demo.{solved}
use Rattle.wave_main.proofs.DemoLaws.{demo_of}
use Rattle.wave_main.proofs.demo.demo_text.Goals as goal

pub planned_text-requires-clause-writes : goal.planned_text-requires-clause-writes
planned_text-requires-clause-writes g c κs within =
    let P : Input → Type 0 = λ i. is_target i.nest solved ≡ true in subst P (sym c.in_ok-planned.ensures.same) c.in_ok-input.ensures.writes

pub planned_text-requires-clause-sound : goal.planned_text-requires-clause-sound
planned_text-requires-clause-sound g c κs within = c.in_ok-planned.ensures.sound

pub returns : goal.returns
returns g c = demo_of c.args.kind c.args.made c.args.workers c.in_ok-input.input c.in_ok-planned.planned c.planned_text.result c.in_ok-input.ensures.demo c.in_ok-planned.ensures c.planned_text.ensures
