use Rattle.wave_base.specs.declared.types.RowId.{RowId}
use Rattle.done_words.specs.Seats.{view}
use Rattle.p2p_exec.proofs.RowLefts.{may_row, after_row, after_rows}
use Rattle.p2p_exec.proofs.rows.run_rows.Goals as goal

pub run_row-requires-clause-next : goal.run_row-requires-clause-next
run_row-requires-clause-next c =
    let none : RowId = record { 0 = 0 } in
    may_row c.args.work.now (view c.args.seat.now) (view c.loop-row.seat) c.args.rows.now c.loop-row.row-index none c.loop-row-test.true c.requires.next c.loop-row.invariant.1

pub loop-row-preserved : goal.loop-row-preserved
loop-row-preserved c =
    let none : RowId = record { 0 = 0 } in (
      c.run_row.ensures.own,
      after_row c.args.work.now (view c.args.seat.now) (view c.loop-row.seat) (view c.run_row.new.seat) c.args.rows.now c.loop-row.row-index none c.loop-row-test.true c.loop-row.invariant.1 c.run_row.ensures.ran,
    )

pub returns-clause-ran : goal.returns-clause-ran
returns-clause-ran c = after_rows c.args.work.now (view c.args.seat.now) (view c.loop-row.seat) c.args.rows.now c.loop-row.row-index c.loop-row-test.false c.loop-row.invariant.1
