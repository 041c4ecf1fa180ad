use Rattle.props_once.proofs.Kept.{kept-once, once-declared}
use Rattle.props_once.proofs.laws.each_is_declared_once.Goals as goal

pub returns-clause-kept : goal.returns-clause-kept
returns-clause-kept c = kept-once

pub returns-clause-declared : goal.returns-clause-declared
returns-clause-declared c = once-declared
