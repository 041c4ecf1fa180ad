use Rattle.std.proofs.Common.{[], sym}
use Rattle.core_machine.proofs.cores.Core.start.Goals as goal

pub invariant_of-result : goal.invariant_of-result
invariant_of-result c = record { fit = c.requires; of = c.in_ok-inner.ensures.of; reached = ([], sym c.in_ok-inner.ensures.begins); caught = c.in_ok-inner.ensures.caught }

pub returns : goal.returns
returns c = λ i. record { work = c.args.work.now; state = c.in_ok-inner.ensures.begins i }
