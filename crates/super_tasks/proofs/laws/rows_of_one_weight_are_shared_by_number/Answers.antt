use Rattle.super_tasks.proofs.Equality.{shared_by_number}
use Rattle.super_tasks.proofs.laws.rows_of_one_weight_are_shared_by_number.Goals as goal

pub returns : goal.returns
returns c = shared_by_number
