use Rattle.done_words.specs.Seats.{view, IsOn}
use Rattle.p2p_exec.proofs.RowLefts.{RowsFrom}
use Rattle.p2p_exec.proofs.rows.run_rows.Given as goal

-- the rows from this one on are next
abbrev pub invariant-loop-row : goal.invariant-loop-row
invariant-loop-row l = IsOn l.seat l.board × RowsFrom l.work (view l.initial.seat) l.rows l.row-index (view l.seat)
