use Rattle.std.proofs.Common.{ℕ, ◌<◌, ◌≡◌, length, slice_index_or, []}
use Rattle.bound_table.specs.Rows.{entry, unit_bound}
use Rattle.bound_table.proofs.table.new_rows.Given as goal

abbrev pub invariant-loop-at : goal.invariant-loop-at
invariant-loop-at l = record {
  long : length l.rows.items ≡ l.at;
  wide : (x : ℕ) → x < l.at → length (slice_index_or l.rows.items x []) ≡ l.size;
  each : (x y : ℕ) → x < l.at → y < l.size → entry l.rows.items x y ≡ unit_bound x y;
}
