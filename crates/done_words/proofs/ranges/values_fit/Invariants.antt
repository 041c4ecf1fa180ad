use Rattle.std.proofs.Common.{w64, ◌<◌}
use Rattle.std.specs.Prelude.{FitsSigned}
use Rattle.wave_base.specs.declared.types.Cell.{Cell}
use Rattle.core_cells.specs.Cells.{at_cell}
use Rattle.done_words.proofs.ranges.values_fit.Given as goal

abbrev pub invariant-loop-array : goal.invariant-loop-array
invariant-loop-array l = (cell : Cell) → cell.array.0 < l.array → FitsSigned w64 (at_cell l.values cell)
