use Rattle.index_props.specs.Rules.{sorted_instance}
use Rattle.index_props.proofs.Steps.{map_step}
use Rattle.index_props.proofs.segment.push_sorted_at.Goals as goal

pub loop-g-preserved : goal.loop-g-preserved
loop-g-preserved c =
    map_step (sorted_instance c.args.order c.args.s.now c.args.t.now) c.args.into.now c.loop-g.into c.push_sorted_instance.new.into c.args.gs.now c.loop-g.g-index c.g-item.result c.loop-g-test.true c.g-item.is c.loop-g.invariant c.in_ok-push_sorted_instance.ensures
