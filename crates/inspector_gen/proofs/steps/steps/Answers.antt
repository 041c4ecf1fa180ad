use Rattle.std.proofs.Common.{◌∙◌}
use Rattle.inspector_gen.specs.Kinds.{kind_of}
use Rattle.inspector_gen.proofs.Orders.{steps_step}
use Rattle.inspector_gen.proofs.steps.steps.Goals as goal

pub loop-u-preserved : goal.loop-u-preserved
loop-u-preserved c = λ f facts.
    let order = c.args.order.now in
    let base = c.args.base.now in
    let k = c.loop-u.u-index in
    let u = c.u-item.result in
    let earlier = c.loop-u.fixed.items in
    steps_step (kind_of f) base order k u earlier c.push_step.new.fixed.items c.loop-u.ops c.push_step.new.ops c.loop-u-test.true c.u-item.is
    c.in_ok-push_step.ensures.fixed (c.in_ok-push_step.ensures.ops f facts)
    ∙ c.loop-u.invariant f facts
