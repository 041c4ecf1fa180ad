use Rattle.std.proofs.Common.{arith}
use Rattle.std.proofs.lemmas.Int.{ints, to_z-of_z}
use Rattle.uf_constraints.proofs.truth.is_within.Goals as goal

pub returns : goal.returns
returns c = (λ h. grind (arith, ints, to_z-of_z), λ h. grind (arith, ints, to_z-of_z))
