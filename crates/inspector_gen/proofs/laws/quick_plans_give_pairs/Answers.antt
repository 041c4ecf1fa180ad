use Rattle.inspector_gen.proofs.Whole.{quicker_gives}
use Rattle.inspector_gen.proofs.laws.quick_plans_give_pairs.Goals as goal

pub returns : goal.returns
returns c nest r f a is_nest listed derived lengths passes =
    quicker_gives nest is_nest (c.systems_are_small.ensures.relations nest is_nest) f c.derivable_is_true.ensures (c.nest_meets_conditions.ensures.names nest is_nest) a lengths passes r listed derived
