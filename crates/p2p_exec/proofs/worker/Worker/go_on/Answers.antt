use Rattle.std.proofs.Common.{List, refl, sym, subst}
use Rattle.wave_base.specs.declared.types.RowId.{RowId}
use Rattle.done_words.specs.Seats.{view}
use Rattle.p2p_exec.specs.Tasks.{AreRows}
use Rattle.p2p_exec.proofs.Wheres.{may_look_on, at_miss, below_level, are_rows, may_run, may_end, at_next_task, past_task}
use Rattle.p2p_exec.proofs.worker.Worker.go_on.Goals as goal

pub find-requires-clause-next : goal.find-requires-clause-next
find-requires-clause-next g c = may_look_on c.args.work.now c.args.self.now (view c.args.seat.now) c.args.task.now c.requires.stands c.requires.task c.as_slice.result.now c.as_slice.ensures

pub task_number-requires : goal.task_number-requires
task_number-requires g c = below_level c.args.work.now c.args.self.now.number c.args.self.now.task c.args.task.now c.requires.fit c.requires.task

pub run_rows-requires-clause-rows : goal.run_rows-requires-clause-rows
run_rows-requires-clause-rows g c =
    let w = c.args.work.now in let x = c.args.self.now in
    subst (λ (rows : List RowId). AreRows w rows) (sym c.as_slice-in-None-2.ensures) (are_rows w x.number x.task c.args.task.now c.requires.fit c.requires.task)

pub run_rows-requires-clause-next : goal.run_rows-requires-clause-next
run_rows-requires-clause-next g c =
    may_run c.args.work.now c.args.self.now (view c.args.seat.now) c.args.task.now c.requires.stands c.requires.task c.as_slice.result.now c.as_slice-in-None-2.result.now (view c.find.new.seat)
    c.as_slice.ensures c.as_slice-in-None-2.ensures (c.in-None.ensures.passed refl)

pub finish-requires-clause-next : goal.finish-requires-clause-next
finish-requires-clause-next g c =
    may_end c.args.work.now c.args.self.now (view c.args.seat.now) c.args.task.now c.requires.stands c.requires.task c.as_slice.result.now c.as_slice-in-None-2.result.now (view c.find.new.seat) (view c.run_rows.new.seat)
    c.as_slice.ensures c.as_slice-in-None-2.ensures (c.in-None.ensures.passed refl) c.run_rows.ensures.ran

pub returns-in-Some-clause-stands : goal.returns-in-Some-clause-stands
returns-in-Some-clause-stands g c =
    at_miss c.args.work.now c.args.self.now (view c.args.seat.now) c.args.task.now c.requires.stands c.requires.task c.as_slice.result.now c.stop.new.self (view c.find.new.seat) c.in-Some.miss
    c.as_slice.ensures c.stop.ensures.worker c.in-Some.ensures.missed

pub returns-in-None-clause-stands : goal.returns-in-None-clause-stands
returns-in-None-clause-stands g c =
    at_next_task c.args.work.now c.args.self.now (view c.args.seat.now) c.args.task.now c.requires.stands c.requires.task c.as_slice.result.now c.as_slice-in-None-2.result.now (view c.find.new.seat) (view c.run_rows.new.seat)
    (view c.finish.new.self) c.next.new.self c.as_slice.ensures c.as_slice-in-None-2.ensures (c.in-None.ensures.passed refl) c.run_rows.ensures.ran c.finish.ensures.view c.next.ensures.worker

pub returns-in-None-clause-done : goal.returns-in-None-clause-done
returns-in-None-clause-done g c done =
    past_task c.args.work.now c.args.self.now (view c.args.seat.now) c.args.task.now c.requires.stands c.requires.task c.as_slice.result.now c.as_slice-in-None-2.result.now (view c.find.new.seat) (view c.run_rows.new.seat)
    (view c.finish.new.self) c.as_slice.ensures c.as_slice-in-None-2.ensures (c.in-None.ensures.passed refl) c.run_rows.ensures.ran c.finish.ensures.view
