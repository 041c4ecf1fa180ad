use Rattle.inspector_gen.proofs.Least.{least_bounds}
use Rattle.inspector_gen.proofs.laws.least_bounds_follow.Goals as goal

pub returns : goal.returns
returns c = least_bounds
