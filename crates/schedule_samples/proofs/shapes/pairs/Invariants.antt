use Rattle.std.proofs.Common.{◌<◌, All}
use Rattle.wave_base.specs.declared.types.RowId.{RowId}
use Rattle.schedule_samples.proofs.shapes.pairs.Given as goal

abbrev pub invariant-loop-row : goal.invariant-loop-row
invariant-loop-row l =
    All (λ (p : RowId × RowId). p.0.0 < p.1.0) l.pairs.items × All (λ (p : RowId × RowId). p.1.0 < l.rows) l.pairs.items
