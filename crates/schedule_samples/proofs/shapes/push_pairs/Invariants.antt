use Rattle.std.proofs.Common.{◌<◌, All}
use Rattle.wave_base.specs.declared.types.RowId.{RowId}
use Rattle.schedule_samples.proofs.shapes.push_pairs.Given as goal

abbrev pub invariant-loop-number : goal.invariant-loop-number
invariant-loop-number l =
    All (λ (p : RowId × RowId). p.0.0 < p.1.0) l.into.items × All (λ (p : RowId × RowId). p.1.0 < l.rows) l.into.items
