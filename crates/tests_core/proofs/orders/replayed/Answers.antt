use Rattle.std.proofs.Common.{◌<◌, length, get_or, sym, ap, subst, ◌∙◌}
use Rattle.core_machine.specs.declared.work.Work.{Work}
use Rattle.core_machine.specs.Machine.{Machine}
use Rattle.tests_core.proofs.orders.replayed.Goals as goal

pub replay-requires : goal.replay-requires
replay-requires c =
    let is = ap (λ (m : Machine). m.work) c.in_ok-core.ensures ∙ c.requires.work in
    λ i d l. subst (λ (w : Work). get_or c.args.order.now i d < length w.sched.workers) (sym is) (c.requires.order i d l)
