use Rattle.std.proofs.Common.{◌≡◌, sym, subst}
use Rattle.std.specs.List.{All}
use Rattle.loop_core.specs.Sequence.{sequential}
use Rattle.core_run.specs.declared.machine.Core as inner
use Rattle.core_run.specs.Cores.{core_of}
use Rattle.core_machine.specs.declared.work.Work.{Work}
use Rattle.core_machine.specs.FitWork.{IsWorker, plain}
use Rattle.core_machine.specs.Machine.{Machine}
use Rattle.core_machine.specs.Replays.{IsReplay}
use Rattle.core_machine.proofs.Told.{good}
use Rattle.core_machine.proofs.Replayed.{counts, values, order_stands}
use Rattle.core_machine.proofs.cores.Core.replay.Goals as goal

pub replay-tally-requires-clause-good : goal.replay-tally-requires-clause-good
replay-tally-requires-clause-good c =
    let w : Work = c.self.inside.work.now in
    good w c.self.inside.inner c.self.inside.inner 0 c.self.invariant (c.nests_are_fit.ensures w.nest w.arrays w.values w.sched.workers c.self.invariant.fit)

pub replay-tally-requires-clause-workers : goal.replay-tally-requires-clause-workers
replay-tally-requires-clause-workers c =
    let w : Work = c.self.inside.work.now in
    let fit = c.nests_are_fit.ensures w.nest w.arrays w.values w.sched.workers c.self.invariant.fit in
    order_stands w c.self.inside.inner c.args.order.now (c.shapes_stay.ensures (plain w) (core_of c.self.inside.inner) fit c.self.invariant.reached)
    (subst (λ (m : Machine). All (IsWorker m.work) c.args.order.now) (sym c.self.view_is) c.requires)

pub returns-clause-values : goal.returns-clause-values
returns-clause-values c =
    let w : Work = c.self.inside.work.now in
    let c0 : inner.Core = c.self.inside.inner in
    let c1 : inner.Core = c.replay-tally.new.self in
    let running = c.self.invariant in
    let fit = c.nests_are_fit.ensures w.nest w.arrays w.values w.sched.workers running.fit in
    let shape = c.shapes_stay.ensures (plain w) (core_of c0) fit running.reached in
    subst (λ (m : Machine). c1.values ≡ sequential m.work.nest m.work.arrays m.work.values) c.self.view_is
    (values w c0 c1 c.args.order.now _ _ running shape c.replay-tally.ensures
    (λ d reached. c.ends_are_as_in_the_loop.ensures w.nest w.arrays w.values w.sched.workers d running.fit reached))

pub returns-clause-counts : goal.returns-clause-counts
returns-clause-counts c =
    let w : Work = c.self.inside.work.now in
    let c0 : inner.Core = c.self.inside.inner in
    let running = c.self.invariant in
    let fit = c.nests_are_fit.ensures w.nest w.arrays w.values w.sched.workers running.fit in
    let shape = c.shapes_stay.ensures (plain w) (core_of c0) fit running.reached in
    subst (λ (m : Machine). IsReplay m.work m.state c.args.order.now c.replay-tally.result.looks c.replay-tally.result.passed) c.self.view_is
    (counts w c0 c.replay-tally.new.self c.args.order.now _ _ running shape c.replay-tally.ensures)
