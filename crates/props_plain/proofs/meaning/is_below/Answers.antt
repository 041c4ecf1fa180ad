use Rattle.std.proofs.Common.{below_more, refl, sym, ◌∙◌, arith}
use Rattle.std.proofs.lemmas.Bool.{false≢true}
use Rattle.props_plain.proofs.meaning.is_below.Goals as goal

pub returns-then-not-is_below_in : goal.returns-then-not-is_below_in
returns-then-not-is_below_in g c =
    (λ h. absurd (false≢true h), λ all. absurd (false≢true (sym c.if-not-is_below_in.true ∙ c.is_below_in.ensures.1 (λ a la x. all c.loop-i.i a x la))))

pub loop-i-preserved : goal.loop-i-preserved
loop-i-preserved g c = below_more _ _ c.loop-i.invariant (c.is_below_in.ensures.0 c.if-not-is_below_in.false)

pub returns : goal.returns
returns g c =
    (λ _. λ i a x la. c.loop-i.invariant i (let both = x.both in omega (arith, both, c.len-many.ensures, c.loop-i-test.false)) a la x, λ _. refl)
