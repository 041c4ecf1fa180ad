use Rattle.props_once.proofs.Due.{due-once}
use Rattle.props_once.proofs.laws.the_same_atoms_are_due.Goals as goal

pub returns : goal.returns
returns c = due-once
