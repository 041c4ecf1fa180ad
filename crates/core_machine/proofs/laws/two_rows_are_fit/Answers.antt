use Rattle.core_machine.proofs.TwoRows.{fits}
use Rattle.core_machine.proofs.laws.two_rows_are_fit.Goals as goal

pub returns : goal.returns
returns c = fits c.unit_forward_is_a_nest.ensures c.two_rows_are_fit.ensures
