use Rattle.std.proofs.Common.{sym, subst}
use Rattle.core_run.specs.declared.machine.Core as inner
use Rattle.core_run.specs.Cores.{core_of}
use Rattle.core_machine.specs.declared.work.Work.{Work}
use Rattle.core_machine.specs.FitWork.{IsWorker, plain}
use Rattle.core_machine.specs.Machine.{Machine}
use Rattle.core_machine.proofs.Told.{machine_of, IsEvent, good, goes_on, events, worker_stands}
use Rattle.core_machine.proofs.cores.Core.event.Goals as goal

pub event-requires-clause-good : goal.event-requires-clause-good
event-requires-clause-good c =
    let w : Work = c.self.inside.work.now in
    good w c.self.inside.inner c.self.inside.inner c.args.worker c.self.invariant (c.nests_are_fit.ensures w.nest w.arrays w.values w.sched.workers c.self.invariant.fit)

pub event-requires-clause-worker : goal.event-requires-clause-worker
event-requires-clause-worker c =
    let w : Work = c.self.inside.work.now in
    let fit = c.nests_are_fit.ensures w.nest w.arrays w.values w.sched.workers c.self.invariant.fit in
    worker_stands w c.self.inside.inner c.args.worker (c.shapes_stay.ensures (plain w) (core_of c.self.inside.inner) fit c.self.invariant.reached)
    (subst (λ (m : Machine). IsWorker m.work c.args.worker) (sym c.self.view_is) c.requires)

pub invariant_of-self : goal.invariant_of-self
invariant_of-self c = goes_on c.self.inside.work.now c.self.inside.inner c.event.new.self c.args.worker c.self.invariant _ _ c.event.ensures.step

all_of : (c : goal.After-event) → IsEvent c.args.self.now (machine_of c.self.inside.work.now c.event.new.self) c.args.worker c.event.result
all_of c =
    let w : Work = c.self.inside.work.now in
    let c0 : inner.Core = c.self.inside.inner in
    let c1 : inner.Core = c.event.new.self in
    let running = c.self.invariant in
    subst (λ (m : Machine). IsEvent m (machine_of w c1) c.args.worker c.event.result) c.self.view_is
    (events w c0 c1 c.args.worker running c.event.result _ _ c.event.ensures.step c.event.ensures.answer
    (c.reads_are_as_in_the_loop.ensures w.nest w.arrays w.values w.sched.workers (core_of c0) running.fit running.reached)
    (c.writes_are_as_in_the_loop.ensures w.nest w.arrays w.values w.sched.workers (core_of c0) running.fit running.reached))

pub returns-clause-work : goal.returns-clause-work
returns-clause-work c = (all_of c).work

pub returns-clause-step : goal.returns-clause-step
returns-clause-step c = (all_of c).step

pub returns-clause-answer : goal.returns-clause-answer
returns-clause-answer c = (all_of c).answer_is

pub returns-clause-value : goal.returns-clause-value
returns-clause-value c = (all_of c).value

pub returns-clause-ended : goal.returns-clause-ended
returns-clause-ended c = (all_of c).ended

pub returns-clause-missed : goal.returns-clause-missed
returns-clause-missed c = (all_of c).missed

pub returns-clause-stays : goal.returns-clause-stays
returns-clause-stays c = (all_of c).stays
