use Rattle.std.proofs.Common.{pos}
use Rattle.loop_core.specs.Instances.{instances}
use Rattle.loop_meaning.proofs.Walks.{admits_all}
use Rattle.tests_core.proofs.literal.Lister.put_row.Goals as goal

pub walk_row-requires-clause-admits : goal.walk_row-requires-clause-admits
walk_row-requires-clause-admits c = admits_all (λ s i t. Unit {0}) _ (instances c.args.work.now.arrays c.args.work.now.nest (pos c.args.row.0))
