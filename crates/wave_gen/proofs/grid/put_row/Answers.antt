use Rattle.std.proofs.Common.{arith}
use Rattle.wave_gen.specs.Grid.{point}
use Rattle.wave_gen.proofs.Steps.{put_each}
use Rattle.wave_gen.proofs.grid.put_row.Goals as goal

pub loop-column-preserved : goal.loop-column-preserved
loop-column-preserved c = put_each (point c.args.k c.args.row) c.loop-column.column c.args.k _ _ _ (omega arith) c.in_ok-put_point.ensures c.loop-column.invariant
