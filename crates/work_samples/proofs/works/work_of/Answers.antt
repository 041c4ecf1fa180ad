use Rattle.work_samples.proofs.OneEach.{one_list_each}
use Rattle.work_samples.proofs.works.work_of.Goals as goal

pub returns-clause-workers : goal.returns-clause-workers
returns-clause-workers g c = one_list_each c.args.workers c.planned.result c.planned.ensures.plan
