use Rattle.inspector_gen.proofs.Whole.{plain_plans, plain_gives}
use Rattle.inspector_gen.proofs.laws.plain_plans_inspect.Goals as goal

pub returns : goal.returns
returns c = record {
  form = λ nest r is_nest listed. plain_plans nest is_nest (c.systems_are_small.ensures.relations nest is_nest) r listed;
  pairs = λ nest r is_nest listed a. plain_gives nest is_nest (c.systems_are_small.ensures.relations nest is_nest) r listed a;
}
