use Rattle.dep_extract.proofs.Stepping.{body_step}
use Rattle.dep_extract.proofs.walk.+walk.Goals as goal

pub push_items-loop-item-preserved : goal.push_items-loop-item-preserved
push_items-loop-item-preserved t c =
    body_step c.args.items.now c.loop-item.item-index c.args.into.now c.loop-item.into c.push_item.new.into c.item-item.result c.args.around.now c.loop-item-test.true c.item-item.is c.loop-item.invariant c.in_ok-push_item.ensures
