use Rattle.std.proofs.Common.{below_more, refl, sym, ◌∙◌, arith}
use Rattle.std.proofs.lemmas.Bool.{false≢true}
use Rattle.props_plain.proofs.meaning.is_injective.Goals as goal

pub returns-then-not-is_injective_from : goal.returns-then-not-is_injective_from
returns-then-not-is_injective_from g c =
    (λ h. absurd (false≢true h), λ all. absurd (false≢true (sym c.if-not-is_injective_from.true ∙ c.is_injective_from.ensures.1 (λ b lb. all c.loop-a.a b (omega (arith, c.loop-a-test.true, c.len-many.ensures)) lb))))

pub loop-a-preserved : goal.loop-a-preserved
loop-a-preserved g c = below_more _ _ c.loop-a.invariant (c.is_injective_from.ensures.0 c.if-not-is_injective_from.false)

pub returns : goal.returns
returns g c =
    (λ _. λ a b la lb. c.loop-a.invariant a (omega (arith, la, c.len-many.ensures, c.loop-a-test.false)) b lb, λ _. refl)
