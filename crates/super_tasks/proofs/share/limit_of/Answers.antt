use Rattle.super_tasks.proofs.Division.{limit_before, limit_from, limit_within}
use Rattle.super_tasks.proofs.share.limit_of.Goals as goal

pub returns-clause-within : goal.returns-clause-within
returns-clause-within c = limit_within c.args.worker c.args.workers c.args.total c.requires.some c.requires.worker

pub returns-clause-before : goal.returns-clause-before
returns-clause-before c = limit_before c.args.worker c.args.workers c.args.total c.requires.some c.requires.worker

pub returns-clause-from : goal.returns-clause-from
returns-clause-from c = limit_from c.args.worker c.args.workers c.args.total c.requires.some c.requires.worker
