use Rattle.access_bounds.proofs.Refusals.{one-cause, no-cause}
use Rattle.access_bounds.proofs.laws.one_refusal_at_most.Goals as goal

pub returns-clause-one : goal.returns-clause-one
returns-clause-one c nest = one-cause nest nest.props

pub returns-clause-none : goal.returns-clause-none
returns-clause-none c nest = no-cause nest nest.props
