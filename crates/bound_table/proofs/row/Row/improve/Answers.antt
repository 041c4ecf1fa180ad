use Rattle.std.proofs.Common.{rules, arith, w64}
use Rattle.std.proofs.lemmas.Int.{to_z-of_z}
use Rattle.std.proofs.lemmas.Grind.{common_steps}
use mir.Val.{SFits}
use Rattle.bound_table.proofs.row.Row.improve.Goals as goal

pub returns-clause-each : goal.returns-clause-each
returns-clause-each c =
    let fc : SFits w64 c.args.c = search rules in
    let h = simp to_z-of_z at c.improve_from.ensures.each in
    λ y ly. grind (arith, common_steps, h)
