use Rattle.std.proofs.Common.{rules}
use Rattle.inspector_gen.proofs.entries.is_below.Goals as goal

pub returns : goal.returns
returns c = λ bounds table.
    let known = c.knows.ensures bounds table in
    search (rules, known)
