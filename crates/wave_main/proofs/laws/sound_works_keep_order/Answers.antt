use Rattle.wave_main.specs.Sound.{core_work}
use Rattle.wave_main.proofs.laws.sound_works_keep_order.Goals as goal

pub returns : goal.returns
returns c work sound state reached = c.dependences_are_ordered.ensures (core_work work) state (c.sound_works_are_fit.ensures work sound) reached
