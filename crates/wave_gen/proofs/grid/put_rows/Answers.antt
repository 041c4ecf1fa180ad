use Rattle.std.proofs.Common.{arith}
use Rattle.wave_gen.specs.Grid.{row_entries}
use Rattle.wave_gen.proofs.Steps.{put_each}
use Rattle.wave_gen.proofs.grid.put_rows.Goals as goal

pub loop-row-preserved : goal.loop-row-preserved
loop-row-preserved c = put_each (row_entries c.args.k) c.loop-row.row c.args.k _ _ _ (omega arith) c.in_ok-put_row.ensures c.loop-row.invariant
