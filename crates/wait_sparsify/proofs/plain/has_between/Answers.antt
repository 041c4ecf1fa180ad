use Rattle.std.proofs.Common.{below_more, rules, arith}
use Rattle.wait_sparsify.proofs.Searching.{next_within}
use Rattle.wait_sparsify.proofs.plain.has_between.Goals as goal

pub loop-between-preserved : goal.loop-between-preserved
loop-between-preserved c =
    below_more _ _ c.loop-between.invariant (λ h. (let t = c.is_between.ensures.1 h in absurd (search rules)))

pub returns : goal.returns
returns c = (
  λ t. absurd (cc),
  λ w. absurd (
      let l = next_within c.args.cross.now c.args.owners.now c.args.first w.0 w.1.0 in
      c.loop-between.invariant w.0 (omega (arith, l, c.len-between-end.ensures.len, c.loop-between-test.false)) w.1),
)
