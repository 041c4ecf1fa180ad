use Rattle.std.proofs.Common.{rules}
use Rattle.row_graph.proofs.Parts.{length-cut}
use Rattle.row_graph.proofs.lists.Lists.len.Goals as goal

pub returns-clause-len : goal.returns-clause-len
returns-clause-len c = search (rules, length-cut)

pub returns-clause-fits : goal.returns-clause-fits
returns-clause-fits c =
    let e = length-cut c.self.inside.starts.items c.self.inside.flat.items in
    let h = c.self.invariant.0 in
    search rules
