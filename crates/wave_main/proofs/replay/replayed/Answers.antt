use Rattle.std.proofs.Common.{ℕ, ◌<◌, length, subst, sym}
use Rattle.std.specs.List.{All}
use Rattle.core_machine.specs.declared.work.Work as core
use Rattle.core_machine.specs.FitWork.{IsFitWork, IsWorker}
use Rattle.wave_main.specs.Planning.{work_of}
use Rattle.wave_main.proofs.PlanLaws.{one_list_each, replayed_work}
use Rattle.wave_main.proofs.replay.replayed.Goals as goal

pub end_text-requires-clause-fit : goal.end_text-requires-clause-fit
end_text-requires-clause-fit c =
    subst IsFitWork (sym c.in_ok-work.ensures) (c.sound_works_are_fit.ensures (work_of c.args.planned c.args.workers) c.requires.sound)

pub end_text-requires-clause-order : goal.end_text-requires-clause-order
end_text-requires-clause-order c =
    let each = one_list_each (work_of c.args.planned c.args.workers) c.requires.sound in
    let known : All (λ k. k < length c.args.planned.plan.sched.workers) c.args.order.now = subst (λ (n : ℕ). All (λ k. k < n) c.args.order.now) (sym each) c.requires.order in
    subst (λ (w : core.Work). All (IsWorker w) c.args.order.now) (sym c.in_ok-work.ensures) known

pub returns : goal.returns
returns c =
    replayed_work (work_of c.args.planned c.args.workers) c.args.planned.verdicts c.args.order.now c.in_ok-numbers.numbers c.in_ok-work.work c.end_text.result c.in_ok-numbers.ensures c.in_ok-work.ensures c.end_text.ensures
