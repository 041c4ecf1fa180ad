use Rattle.std.proofs.Common.{◌<◌, All}
use Rattle.wave_base.specs.declared.types.RowId.{RowId}
use Rattle.schedule_samples.proofs.made.valid_pairs.Given as goal

abbrev pub invariant-loop-first : goal.invariant-loop-first
invariant-loop-first l =
    All (λ (p : RowId × RowId). p.0.0 < p.1.0) l.pairs.items × All (λ (p : RowId × RowId). p.1.0 < l.rows) l.pairs.items
