use Rattle.rule_laws.proofs.Nests.{nest-names, nest-bounds, nest-terms, nest-atoms}
use Rattle.rule_laws.proofs.laws.nest_meets_conditions.Goals as goal

pub returns-clause-names : goal.returns-clause-names
returns-clause-names c = nest-names

pub returns-clause-bounds : goal.returns-clause-bounds
returns-clause-bounds c = nest-bounds

pub returns-clause-terms : goal.returns-clause-terms
returns-clause-terms c = nest-terms

pub returns-clause-atoms : goal.returns-clause-atoms
returns-clause-atoms c = nest-atoms
