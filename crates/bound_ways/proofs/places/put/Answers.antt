use Rattle.std.proofs.Common.{arith}
use Rattle.bound_ways.proofs.Atoms.{first-place, first-put}
use Rattle.bound_ways.proofs.places.put.Goals as goal

pub returns-then-key-len : goal.returns-then-key-len
returns-then-key-len c =
    first-put c.args.atoms.now c.args.table.now.items c.key-key.result c.place.result (omega arith) c.requires
    (rw c.place.ensures (first-place c.args.atoms.now c.args.atom.now))
