use Rattle.index_props.specs.Rules.{sorted_from}
use Rattle.index_props.proofs.Steps.{flat_step}
use Rattle.index_props.proofs.segment.push_sorted.Goals as goal

pub loop-s-preserved : goal.loop-s-preserved
loop-s-preserved c =
    flat_step (sorted_from c.args.order c.args.gs.now c.args.es.now) c.args.into.now c.loop-s.into c.push_sorted_from.new.into c.args.es.now c.loop-s.s-index c.s-item.result c.loop-s-test.true c.s-item.is c.loop-s.invariant c.in_ok-push_sorted_from.ensures
