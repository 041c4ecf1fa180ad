use Rattle.std.proofs.Common.{◌≡◌, ◌++◌, ◌-◌}
use Rattle.std.specs.List.{flat_map, range_with_len}
use Rattle.wave_gen.specs.Texts.{entries_text}
use Rattle.wave_gen.specs.Grid.{row_entries, grid_entries}
use Rattle.wave_gen.proofs.grid.put_rows.Given as goal

-- the text so far and that of the rows left are the whole text
abbrev pub invariant-loop-row : goal.invariant-loop-row
invariant-loop-row l =
    l.text.items ++ entries_text (flat_map (row_entries l.k) (range_with_len l.row (l.k - l.row)))
    ≡ l.fn.text.items ++ entries_text (grid_entries l.k)
