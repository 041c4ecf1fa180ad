use Rattle.bound_close.specs.Workings.{bounds}
use Rattle.bound_close.proofs.Passing.{low-at}
use Rattle.bound_close.proofs.workings.Workings.open_from.Goals as goal

pub returns-clause-low : goal.returns-clause-low
returns-clause-low c = λ l. low-at c.args.atoms.now (bounds c.args.self.now) c.args.premises.now c.first_open-at.result c.seen_at-seen-2.result l c.first_open-at.ensures.open (c.seen_at-seen-2.ensures l)
