use Rattle.std.proofs.Common.{ℕ, ◌<◌, ◌≤◌, ◌≡◌, length, slice_index_or, []}
use Rattle.bound_table.specs.Rows.{entry, lowered, AreMarked}
use Rattle.bound_table.proofs.table.improve_rows.Given as goal

abbrev pub invariant-loop-x : goal.invariant-loop-x
invariant-loop-x l = record {
  long : length l.rows ≡ length l.initial.rows;
  wide : (k : ℕ) → k < length l.initial.rows → length (slice_index_or l.rows k []) ≡ length l.from;
  done : (k y : ℕ) → k < l.x → y < length l.from → entry l.rows k y ≡ lowered l.a l.from l.c (slice_index_or l.initial.rows k []) y;
  left : (k : ℕ) → l.x ≤ k → slice_index_or l.rows k [] ≡ slice_index_or l.initial.rows k [];
  marks_long : length l.marks ≡ length l.initial.rows;
  marks_wide : (k : ℕ) → k < length l.initial.rows → length (slice_index_or l.marks k []) ≡ length l.from;
  marks_done : (k : ℕ) → k < l.x → AreMarked (length l.from) l.edge (slice_index_or l.initial.rows k []) (slice_index_or l.rows k []) (slice_index_or l.initial.marks k []) (slice_index_or l.marks k []);
  marks_left : (k : ℕ) → l.x ≤ k → slice_index_or l.marks k [] ≡ slice_index_or l.initial.marks k [];
}
