use Rattle.std.proofs.Common.{◌≡◌, take}
use Rattle.bound_table.proofs.table.copy_marks.Given as goal

abbrev pub invariant-loop-row : goal.invariant-loop-row
invariant-loop-row l = l.copy.items ≡ take l.row-index l.marks
