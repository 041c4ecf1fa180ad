use Rattle.std.proofs.Common.{below_more, refl, sym, ◌∙◌, arith}
use Rattle.std.proofs.lemmas.Bool.{false≢true}
use Rattle.props_plain.proofs.meaning.is_injective_from.Goals as goal

pub returns-then-not-is_injective_at : goal.returns-then-not-is_injective_at
returns-then-not-is_injective_at g c =
    (λ h. absurd (false≢true h), λ all. absurd (false≢true (sym c.if-not-is_injective_at.true ∙ c.is_injective_at.ensures.1 (all c.loop-b.b (omega (arith, c.loop-b-test.true, c.len-many.ensures))))))

pub loop-b-preserved : goal.loop-b-preserved
loop-b-preserved g c = below_more _ _ c.loop-b.invariant (c.is_injective_at.ensures.0 c.if-not-is_injective_at.false)

pub returns : goal.returns
returns g c =
    (λ _. λ b lt. c.loop-b.invariant b (omega (arith, lt, c.len-many.ensures, c.loop-b-test.false)), λ _. refl)
