use Rattle.std.proofs.Common.{◌≡◌, refl}
use Rattle.done_words.specs.Seats.{view}
use Rattle.p2p_exec.specs.Where.{tasks}
use Rattle.p2p_exec.proofs.Wheres.{are_tasks, is_task, no_task, ended, not_ended}
use Rattle.p2p_exec.proofs.worker.Worker.advance.Goals as goal

pub returns-then-self-tasks-clause-finished : goal.returns-then-self-tasks-clause-finished
returns-then-self-tasks-clause-finished g c =
    let w = c.args.work.now in let x = c.args.self.now in let ts = c.as_slice-tasks.result.now in let t = c.index-tasks-self.result in
    let own : ts ≡ tasks w x.number = are_tasks w x.number c.as_slice.result.now c.index-as_slice-self.result ts c.as_slice.ensures c.requires.stands.there c.index-as_slice-self.is c.as_slice-tasks.ensures in
    (λ e. absurd (c.go_on.ensures.goes e), λ end. absurd (not_ended w x (view c.args.seat.now) t c.requires.stands (is_task w x.number x.task ts t own c.if-self-tasks.true c.index-tasks-self.is) end))

pub returns-else-self-tasks-clause-finished : goal.returns-else-self-tasks-clause-finished
returns-else-self-tasks-clause-finished g c =
    let w = c.args.work.now in let x = c.args.self.now in let ts = c.as_slice-tasks.result.now in
    let own : ts ≡ tasks w x.number = are_tasks w x.number c.as_slice.result.now c.index-as_slice-self.result ts c.as_slice.ensures c.requires.stands.there c.index-as_slice-self.is c.as_slice-tasks.ensures in
    (λ e. ended w x (view c.args.seat.now) c.requires.stands (no_task w x.number x.task ts own c.if-self-tasks.false), λ end. refl)
