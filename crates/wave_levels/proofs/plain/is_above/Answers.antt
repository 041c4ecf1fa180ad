use Rattle.std.proofs.Common.{arith, rules}
use Rattle.wave_levels.proofs.Above.{above-at, above-le}
use Rattle.wave_levels.proofs.plain.is_above.Goals as goal

pub returns-then-other-number : goal.returns-then-other-number
returns-then-other-number c = (
  λ t. absurd (cc),
  λ h. absurd (
      let a = above-at c.args.numbers.now c.loop-other.other-index 0 (search rules) in
      omega (arith, a, h)),
)

pub returns : goal.returns
returns c = (
  λ t. above-le c.args.numbers.now c.args.number (λ k l. c.loop-other.invariant k (omega (arith, l, c.loop-other-test.false))),
  λ h. search rules,
)
