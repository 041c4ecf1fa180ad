use Rattle.wave_report.proofs.Named.{are_named}
use Rattle.wave_report.proofs.laws.nests_can_be_printed.Goals as goal

pub returns-clause-few : goal.returns-clause-few
returns-clause-few c nest h = h.few_arrays

pub returns-clause-names : goal.returns-clause-names
returns-clause-names c = are_named
