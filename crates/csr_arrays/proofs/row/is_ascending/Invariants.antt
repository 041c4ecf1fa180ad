use Rattle.std.proofs.Common.{◌-◌, ◌<◌, ◌≤◌, get_or}
use Rattle.std.specs.List.{AllAdjacentBelow}
use Rattle.csr_arrays.specs.Rows.{Cell}
use Rattle.csr_arrays.proofs.row.is_ascending.Given as goal

abbrev pub invariant-loop-column : goal.invariant-loop-column
invariant-loop-column l =
    AllAdjacentBelow (λ (a b : Cell). a.0 ≤ b.0) l.cells l.column-index × ((d : Cell) → 0 < l.column-index → (get_or l.cells (l.column-index - 1) d).0 ≤ l.last)
