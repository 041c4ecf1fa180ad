use Rattle.std.proofs.Common.{below_more, refl, sym, ◌∙◌, arith}
use Rattle.std.proofs.lemmas.Bool.{false≢true}
use Rattle.props_plain.proofs.meaning.is_strict.Goals as goal

pub returns-then-not-is_strict_from : goal.returns-then-not-is_strict_from
returns-then-not-is_strict_from g c =
    (λ h. absurd (false≢true h), λ all. absurd (false≢true (sym c.if-not-is_strict_from.true ∙ c.is_strict_from.ensures.1 (λ b lt le. all c.loop-a.a b le lt))))

pub loop-a-preserved : goal.loop-a-preserved
loop-a-preserved g c = below_more _ _ c.loop-a.invariant (c.is_strict_from.ensures.0 c.if-not-is_strict_from.false)

pub returns : goal.returns
returns g c =
    (λ _. λ a b le lt. c.loop-a.invariant a (omega (arith, le, lt, c.len-many.ensures, c.loop-a-test.false)) b lt le, λ _. refl)
