use Rattle.inspector_gen.proofs.Whole.{own_form, own_inspects}
use Rattle.inspector_gen.proofs.laws.plans_inspect.Goals as goal

pub returns : goal.returns
returns c = record {
  form = λ nest r k bounds own table.
      own_form c.derivable_is_true.ensures nest r k bounds own table (c.systems_are_small.ensures.relations nest own.is_nest);
  pairs = λ nest r k bounds own table a lengths passes.
      own_inspects c.derivable_is_true.ensures nest r k bounds own table (c.systems_are_small.ensures.relations nest own.is_nest)
      (c.nest_meets_conditions.ensures.names nest own.is_nest) a lengths passes;
}
