use Rattle.std.proofs.Common.{◌∙◌}
use Rattle.inspector_gen.specs.Plain.{looped}
use Rattle.inspector_gen.proofs.Orders.{steps_step}
use Rattle.inspector_gen.proofs.plain.looped_steps.Goals as goal

pub loop-u-preserved : goal.loop-u-preserved
loop-u-preserved c =
    steps_step looped c.args.base.now c.args.order.now c.loop-u.u-index c.u-item.result c.loop-u.fixed.items c.push_operation.new.fixed.items c.loop-u.ops c.push_operation.new.ops
    c.loop-u-test.true c.u-item.is c.in_ok-push_operation.ensures.fixed c.in_ok-push_operation.ensures.ops
    ∙ c.loop-u.invariant
