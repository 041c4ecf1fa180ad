use Rattle.std.proofs.Common.{below_more, refl, sym, ◌∙◌, arith}
use Rattle.std.proofs.lemmas.Bool.{false≢true}
use Rattle.props_plain.proofs.meaning.is_sorted_in.Goals as goal

pub returns-then-not-is_sorted_before : goal.returns-then-not-is_sorted_before
returns-then-not-is_sorted_before g c =
    (λ h. absurd (false≢true h), λ all. absurd (false≢true (sym c.if-not-is_sorted_before.true ∙ c.is_sorted_before.ensures.1 (all c.loop-b.b (omega (arith, c.loop-b-test.true, c.len-many.ensures))))))

pub loop-b-preserved : goal.loop-b-preserved
loop-b-preserved g c = below_more _ _ c.loop-b.invariant (c.is_sorted_before.ensures.0 c.if-not-is_sorted_before.false)

pub returns : goal.returns
returns g c =
    (λ _. λ b lt. c.loop-b.invariant b (omega (arith, lt, c.len-many.ensures, c.loop-b-test.false)), λ _. refl)
