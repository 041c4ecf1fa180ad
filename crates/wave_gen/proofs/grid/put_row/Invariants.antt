use Rattle.std.proofs.Common.{◌≡◌, ◌++◌, ◌-◌}
use Rattle.std.specs.List.{flat_map, range_with_len}
use Rattle.wave_gen.specs.Texts.{entries_text}
use Rattle.wave_gen.specs.Grid.{point, row_entries}
use Rattle.wave_gen.proofs.grid.put_row.Given as goal

-- the text so far and that of the points left are the whole text
abbrev pub invariant-loop-column : goal.invariant-loop-column
invariant-loop-column l =
    l.text.items ++ entries_text (flat_map (point l.k l.row) (range_with_len l.column (l.k - l.column)))
    ≡ l.fn.text.items ++ entries_text (row_entries l.k l.row)
