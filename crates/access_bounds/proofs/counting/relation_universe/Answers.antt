use Rattle.std.proofs.Common.{[]}
use Rattle.uf_constraints.specs.Universe.{atoms_due}
use Rattle.access_bounds.proofs.counting.relation_universe.Goals as goal

pub returns-in-Err-clause-full : goal.returns-in-Err-clause-full
returns-in-Err-clause-full c =
    c.at_line.ensures (atoms_due c.args.relation.now.base [] c.args.props.now) (rw c.as_slice.ensures at c.in-Err.ensures.cause)
