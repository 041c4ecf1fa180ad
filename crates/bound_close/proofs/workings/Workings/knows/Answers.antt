use Rattle.std.proofs.Common.{arith}
use Rattle.bound_ways.proofs.Bounding.{a_in}
use Rattle.bound_close.proofs.workings.Workings.knows.Goals as goal

pub get-requires : goal.get-requires
get-requires c =
    let l = a_in c.args.atoms.now c.args.diff.now c.requires.over in let e = c.place-x.ensures in let f = c.requires.fine.long in omega arith
