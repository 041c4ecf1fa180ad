use Rattle.bracket_claims.proofs.Systems.{claims-small, relations-small}
use Rattle.bracket_claims.proofs.laws.systems_are_small.Goals as goal

pub returns-clause-brackets : goal.returns-clause-brackets
returns-clause-brackets c nest is_nest = claims-small nest is_nest (c.nest_meets_conditions.ensures.terms nest is_nest)

pub returns-clause-relations : goal.returns-clause-relations
returns-clause-relations c nest is_nest = relations-small nest is_nest (c.nest_meets_conditions.ensures.terms nest is_nest)
