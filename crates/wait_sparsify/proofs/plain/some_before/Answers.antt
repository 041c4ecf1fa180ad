use Rattle.std.proofs.Common.{Contains, below_more, rules}
use Rattle.wave_base.specs.declared.types.RowId.{RowId}
use Rattle.wait_sparsify.proofs.Searching.{nowhere}
use Rattle.wait_sparsify.proofs.plain.some_before.Goals as goal

pub loop-row-preserved : goal.loop-row-preserved
loop-row-preserved c =
    below_more _ _ c.loop-row.invariant (λ h. (let t = c.is_listed.ensures.1 h in absurd (search rules)))

pub returns : goal.returns
returns c = (
  λ t. absurd (cc),
  λ w. absurd (nowhere (λ (r : RowId). Contains c.args.before.now r) c.args.rows.now c.loop-row.row-index c.loop-row-test.false c.loop-row.invariant w.0 w.1 w.2),
)
