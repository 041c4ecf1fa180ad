use Rattle.std.proofs.Common.{◌-◌, ◌<◌, [], length, arith}
use Rattle.row_graph.proofs.Parts.{length-cut, get_or-cut}
use Rattle.row_graph.proofs.lists.Lists.list.Goals as goal

pub between-requires-clause-at : goal.between-requires-clause-at
between-requires-clause-at c =
    let e = length-cut c.self.inside.starts.items c.self.inside.flat.items in
    grind (arith, e)

pub returns : goal.returns
returns c =
    let starts = c.self.inside.starts.items in
    let flat = c.self.inside.flat.items in
    let below : c.args.at < length starts - 1 = let e = length-cut starts flat in grind (arith, e) in
    let e = get_or-cut starts flat c.args.at [] below in
    cc
