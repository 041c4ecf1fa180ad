use Rattle.std.proofs.Common.{◌<◌, length, sym, subst}
use Rattle.core_machine.specs.declared.work.Work.{Work}
use Rattle.tests_core.proofs.events.step.Goals as goal

pub event-requires : goal.event-requires
event-requires c = subst (λ (w : Work). c.args.worker < length w.sched.workers) (sym c.requires.work) c.requires.worker
