use Rattle.prop_check.proofs.Found.{places, fails}
use Rattle.prop_check.proofs.laws.failures_have_places.Goals as goal

pub returns : goal.returns
returns c a kind = (places a kind, λ x. fails a kind x.0 x.1 x.2)
