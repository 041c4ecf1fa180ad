use Rattle.std.proofs.Common.{ap}
use Rattle.core_value.specs.Taken.{Taken}
use Rattle.core_value.proofs.Takings.{takes}
use Rattle.core_value.proofs.laws.expressions_have_values.Goals as goal

pub returns : goal.returns
returns c = λ nest a x env e locals registers more. ap (λ (t : Taken). t.value) (takes nest a x env locals e registers more)
