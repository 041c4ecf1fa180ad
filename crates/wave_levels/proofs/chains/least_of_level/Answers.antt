use Rattle.std.proofs.Common.{rules}
use Rattle.wave_levels.proofs.RowsAt.{least_at, none_passed}
use Rattle.wave_levels.proofs.chains.least_of_level.Goals as goal

pub returns-then-of-level-clause-least : goal.returns-then-of-level-clause-least
returns-then-of-level-clause-least c =
    least_at c.args.levels.now c.args.level c.args.rows.now c.loop-row.row-index (search rules) c.requires.ascending c.loop-row.invariant

pub unreachable-requires : goal.unreachable-requires
unreachable-requires c =
    none_passed c.args.levels.now c.args.level c.args.rows.now c.loop-row.row-index (search rules) c.loop-row.invariant c.requires.some
