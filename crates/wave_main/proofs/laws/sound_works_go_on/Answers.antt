use Rattle.wave_main.specs.Sound.{core_work}
use Rattle.wave_main.proofs.laws.sound_works_go_on.Goals as goal

pub returns : goal.returns
returns c work sound state reached = c.some_worker_steps.ensures (core_work work) state (c.sound_works_are_fit.ensures work sound) reached
