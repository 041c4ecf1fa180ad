use Rattle.std.proofs.Common.{sym, refl, ◌∙◌, arith}
use Rattle.std.proofs.lemmas.Bool.{false≢true}
use Rattle.uf_constraints.proofs.Walked.{all_step, all_end, all_fails}
use Rattle.index_props.specs.Within.{BoundsWithin}
use Rattle.index_props.proofs.small.are_bounds_small.Goals as goal

pub returns-then-not-has_small_bounds : goal.returns-then-not-has_small_bounds
returns-then-not-has_small_bounds c =
    let never = all_fails (λ p. BoundsWithin p.kind) c.args.props.now c.loop-prop.prop-index c.prop-item.result c.loop-prop-test.true c.prop-item.is (λ h. false≢true (sym c.if-not-has_small_bounds.true ∙ c.has_small_bounds.ensures.1 h)) in
    (λ h. absurd (false≢true h), λ h. absurd (never h))

pub loop-prop-preserved : goal.loop-prop-preserved
loop-prop-preserved c =
    all_step (λ p. BoundsWithin p.kind) c.args.props.now c.loop-prop.prop-index c.prop-item.result c.loop-prop-test.true c.prop-item.is c.loop-prop.invariant (c.has_small_bounds.ensures.0 c.if-not-has_small_bounds.false)

pub returns : goal.returns
returns c =
    let all = all_end (λ p. BoundsWithin p.kind) c.args.props.now c.loop-prop.prop-index (omega arith) c.loop-prop.invariant in
    (λ _. all, λ _. refl)
