use Rattle.std.proofs.Common.{arith}
use Rattle.bound_ways.proofs.Bounding.{a_in}
use Rattle.bound_plain.proofs.plain.grid.Grid.knows.Goals as goal

pub entry_at-requires : goal.entry_at-requires
entry_at-requires c =
    let l = a_in c.args.atoms.now c.args.diff.now c.requires.over in let e = c.place-x.ensures in let f = c.requires.grid.long in omega arith
