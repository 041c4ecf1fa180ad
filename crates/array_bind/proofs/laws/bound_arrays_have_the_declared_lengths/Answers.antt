use Rattle.array_bind.proofs.Lengths.{bound_is_declared as law}
use Rattle.array_bind.proofs.laws.bound_arrays_have_the_declared_lengths.Goals as goal

pub returns : goal.returns
returns c = law
