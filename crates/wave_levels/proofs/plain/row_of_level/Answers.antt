use Rattle.std.proofs.Common.{arith}
use Rattle.wave_levels.proofs.Above.{none_of_level}
use Rattle.wave_levels.proofs.plain.row_of_level.Goals as goal

pub unreachable-requires : goal.unreachable-requires
unreachable-requires c =
    none_of_level c.args.levels.now c.args.level c.loop-row.row c.requires.greatest (omega (arith, c.requires.levels.0, c.rows-row-end.ensures.rows, c.loop-row-test.false)) c.loop-row.invariant
