use Rattle.prop_check.proofs.Unique.{once}
use Rattle.prop_check.proofs.laws.places_are_unique.Goals as goal

pub returns : goal.returns
returns c = once
