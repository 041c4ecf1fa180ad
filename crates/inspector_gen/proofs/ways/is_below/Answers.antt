use Rattle.std.proofs.Common.{rules, negsuc, ◌-ℤ◌, FitsSigned}
use mir.Syntax.{w128}
use Rattle.std.proofs.lemmas.Int.{ints}
use Rattle.inspector_gen.proofs.ways.is_below.Goals as goal

pub returns : goal.returns
returns c = λ bounds table.
    let fits : FitsSigned w128 (negsuc 0 -ℤ c.args.e) = search (ints, rules) in
    search (rules, ints, fits, c.knows.ensures bounds table)
