use Rattle.std.proofs.Common.{below_more, refl, sym, ◌∙◌, arith}
use Rattle.std.proofs.lemmas.Bool.{false≢true}
use Rattle.props_plain.proofs.meaning.is_ranged.Goals as goal

pub returns-then-not-is_between : goal.returns-then-not-is_between
returns-then-not-is_between g c =
    (λ h. absurd (false≢true h), λ all. absurd (false≢true (sym c.if-not-is_between.true ∙ c.is_between.ensures.1 (all c.loop-place.place (omega (arith, c.loop-place-test.true, c.len-many.ensures))))))

pub loop-place-preserved : goal.loop-place-preserved
loop-place-preserved g c = below_more _ _ c.loop-place.invariant (c.is_between.ensures.0 c.if-not-is_between.false)

pub returns : goal.returns
returns g c =
    (λ _. λ k lt. c.loop-place.invariant k (omega (arith, lt, c.len-many.ensures, c.loop-place-test.false)), λ _. refl)
