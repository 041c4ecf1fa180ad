use Rattle.std.proofs.Common.{ℕ, ◌<◌, ◌≡◌, length, slice_index_or, []}
use Rattle.bound_table.proofs.table.new_marks.Given as goal

abbrev pub invariant-loop : goal.invariant-loop
invariant-loop l = record {
  long : length l.marks.items ≡ l.counter;
  wide : (x : ℕ) → x < l.counter → length (slice_index_or l.marks.items x []) ≡ l.size;
  each : (x y : ℕ) → x < l.counter → y < l.size → slice_index_or (slice_index_or l.marks.items x []) y 0 ≡ 0;
}
