-- The invariant holds in each reached state of a fit work.
use Rattle.core_law.specs.Works.{Work}
use Rattle.core_law.specs.Fit.{IsFit}
use Rattle.core_law.specs.Machine.{State, Reached}
use Rattle.core_law.proofs.Kept.{Inv}
use Rattle.core_law.proofs.Laying.{laid}
use Rattle.core_law.proofs.Steps.{reached_kept}

pub holds : (w : Work) → IsFit w → (c : State) → Reached w c → Inv w c
holds w fit c r = reached_kept w fit (laid w fit) c r
