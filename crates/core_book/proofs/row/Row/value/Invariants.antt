use Rattle.std.proofs.Common.{◌-◌}
use Rattle.core_book.specs.Hows.{how_at}
use Rattle.core_book.proofs.Going.{Goes}
use Rattle.core_book.proofs.row.Row.value.Given as goal

abbrev pub invariant-loop-place : goal.invariant-loop-place
invariant-loop-place l = Goes l.fn.book l.fn.hows l.fn.registers (l.fn.at - (how_at l.fn.hows l.fn.at).before) l.place l.self
