use Rattle.std.proofs.Common.{arith}
use Rattle.wave_gen.specs.Grid.{grid_entries}
use Rattle.wave_gen.proofs.Files.{text_read}
use Rattle.wave_gen.proofs.Grids.{grid_are, grid_long, few_points}
use Rattle.wave_gen.proofs.laws.grid_is_read.Goals as goal

pub returns : goal.returns
returns c = λ k some few.
    let points = few_points k few in
    text_read _ _ (grid_entries k) (omega (arith, points.0)) (omega (arith, points.1)) (grid_long k some) (grid_are k)
