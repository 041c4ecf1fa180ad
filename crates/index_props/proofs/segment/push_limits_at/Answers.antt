use Rattle.index_props.specs.Rules.{limit_instance}
use Rattle.index_props.proofs.Steps.{map_step}
use Rattle.index_props.proofs.segment.push_limits_at.Goals as goal

pub loop-g-preserved : goal.loop-g-preserved
loop-g-preserved c =
    map_step (limit_instance c.args.strict c.args.e.now) c.args.into.now c.loop-g.into c.push_limit_instance.new.into c.args.gs.now c.loop-g.g-index c.g-item.result c.loop-g-test.true c.g-item.is c.loop-g.invariant c.in_ok-push_limit_instance.ensures
