use Rattle.std.proofs.Common.{rules, ◌≡◌, pos, ◌-ℤ◌, arith}
use Rattle.std.proofs.lemmas.Int.{ints}
use Rattle.inspector_gen.proofs.entries.is_natural.Goals as goal

pub returns : goal.returns
returns c = λ bounds table.
    let plus = c.args.t.now.plus in
    let none : plus ≡ plus -ℤ pos 0 = omega (arith, ints) in
    let known = c.knows.ensures bounds table in
    search (rules, ints, known, none)
