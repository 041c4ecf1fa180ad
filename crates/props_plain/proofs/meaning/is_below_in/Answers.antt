use Rattle.std.proofs.Common.{below_more, refl, sym, ◌∙◌, arith}
use Rattle.std.proofs.lemmas.Bool.{false≢true}
use Rattle.props_plain.proofs.meaning.is_below_in.Goals as goal

pub returns-then-not-is_below_at : goal.returns-then-not-is_below_at
returns-then-not-is_below_at g c =
    (λ h. absurd (false≢true h), λ all. absurd (false≢true (sym c.if-not-is_below_at.true ∙ c.is_below_at.ensures.1 (all c.loop-a.a (omega (arith, c.loop-a-test.true, c.len-many.ensures))))))

pub loop-a-preserved : goal.loop-a-preserved
loop-a-preserved g c = below_more _ _ c.loop-a.invariant (c.is_below_at.ensures.0 c.if-not-is_below_at.false)

pub returns : goal.returns
returns g c =
    (λ _. λ a lt. c.loop-a.invariant a (omega (arith, lt, c.len-many.ensures, c.loop-a-test.false)), λ _. refl)
