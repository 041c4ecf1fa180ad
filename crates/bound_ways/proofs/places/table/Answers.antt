use Rattle.bound_ways.proofs.Atoms.{none_first}
use Rattle.bound_ways.proofs.places.table.Goals as goal

pub loop-atom-init : goal.loop-atom-init
loop-atom-init c = none_first c.args.atoms.now 4096 c.in_ok-table.table.items c.in_ok-table.ensures
