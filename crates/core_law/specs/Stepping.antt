-- A state is ended, or some worker can step.
use Rattle.std.specs.Prelude.{◌⊎◌, ℕ}
use Rattle.core_law.specs.Works.{Work}
use Rattle.core_law.specs.Machine.{State}
use Rattle.core_law.specs.Standing.{HasEnded, CanStep}

abbrev pub EndedOrSteps : Work → State → Type 0
EndedOrSteps w c = HasEnded w c ⊎ ((k : ℕ) × CanStep w c k)
