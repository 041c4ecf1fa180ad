use Rattle.core_rows.proofs.Steps.{stays}
use Rattle.core_rows.proofs.laws.later_reads_change_nothing.Goals as goal

pub returns : goal.returns
returns c = stays
