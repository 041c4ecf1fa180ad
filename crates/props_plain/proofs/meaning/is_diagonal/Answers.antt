use Rattle.std.proofs.Common.{below_more, refl, sym, ◌∙◌, arith}
use Rattle.std.proofs.lemmas.Bool.{false≢true}
use Rattle.props_plain.proofs.meaning.is_diagonal.Goals as goal

pub returns-then-not-is_diagonal_at : goal.returns-then-not-is_diagonal_at
returns-then-not-is_diagonal_at g c =
    (λ h. absurd (false≢true h), λ all. absurd (false≢true (sym c.if-not-is_diagonal_at.true ∙ c.is_diagonal_at.ensures.1 (all c.loop-i.i (omega (arith, c.loop-i-test.true, c.len-many.ensures))))))

pub loop-i-preserved : goal.loop-i-preserved
loop-i-preserved g c = below_more _ _ c.loop-i.invariant (c.is_diagonal_at.ensures.0 c.if-not-is_diagonal_at.false)

pub returns : goal.returns
returns g c =
    (λ _. λ i lt. c.loop-i.invariant i (omega (arith, lt, c.len-many.ensures, c.loop-i-test.false)), λ _. refl)
