use Rattle.std.proofs.Common.{ℕ, ◌<◌, ◌≡◌, length, slice_index_or, []}
use Rattle.bound_table.specs.Rows.{entry, lowered}
use Rattle.bound_table.proofs.plain.all_by_way.Given as goal

abbrev pub invariant-loop-x : goal.invariant-loop-x
invariant-loop-x l = record {
  long : length l.new.items ≡ l.x;
  wide : (k : ℕ) → k < l.x → length (slice_index_or l.new.items k []) ≡ length l.from;
  each : (k y : ℕ) → k < l.x → y < length l.from → entry l.new.items k y ≡ lowered l.a l.from l.c (slice_index_or l.rows k []) y;
}
