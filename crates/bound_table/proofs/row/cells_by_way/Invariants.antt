use Rattle.std.proofs.Common.{ℕ, ◌<◌, ◌≡◌, length}
use Rattle.bound_table.specs.Rows.{cell, lowered}
use Rattle.bound_table.proofs.row.cells_by_way.Given as goal

abbrev pub invariant-loop-y : goal.invariant-loop-y
invariant-loop-y l = record {
  long : length l.new.items ≡ l.y;
  each : (k : ℕ) → k < l.y → cell l.new.items k ≡ lowered l.a l.from l.c l.cells k;
}
