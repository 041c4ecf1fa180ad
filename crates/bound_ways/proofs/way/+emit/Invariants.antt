use Rattle.bound_table.specs.Marks.{mark_at}
use Rattle.bound_ways.proofs.way.+emit.Given as goal

abbrev pub decreases-emit : goal.decreases-emit
decreases-emit l = mark_at l.table.now.marks.items l.x l.y
