use Rattle.std.proofs.Common.{ℕ, ◌<◌, ◌≤◌, ◌≡◌, slice_index_or}
use Rattle.bound_table.specs.Rows.{cell, step, mark_of}
use Rattle.bound_table.proofs.row.improve_cells.Given as goal

abbrev pub invariant-loop-y : goal.invariant-loop-y
invariant-loop-y l = record {
  done : (k : ℕ) → k < l.y → cell l.cells k ≡ step l.start (cell l.from k) (cell l.initial.cells k);
  left : (k : ℕ) → l.y ≤ k → cell l.cells k ≡ cell l.initial.cells k;
  marks_done : (k : ℕ) → k < l.y → slice_index_or l.marks k 0 ≡ mark_of (cell l.initial.cells k) (step l.start (cell l.from k) (cell l.initial.cells k)) (slice_index_or l.initial.marks k 0) l.edge;
  marks_left : (k : ℕ) → l.y ≤ k → slice_index_or l.marks k 0 ≡ slice_index_or l.initial.marks k 0;
}
