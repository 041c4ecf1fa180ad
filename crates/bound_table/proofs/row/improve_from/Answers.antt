use Rattle.std.proofs.Common.{rules, ◌≡◌, arith, w64, to_z, of_z, true}
use Rattle.std.specs.Int.Signed.{◌<ℤ◌, lt_z}
use Rattle.std.proofs.lemmas.Int.{ints, to_z-of_z}
use mir.Val.{SFits}
use Rattle.bound_table.specs.Rows.{far, cell, Within}
use Rattle.bound_table.proofs.Sets.{lowered-from, Within-add}
use Rattle.bound_table.proofs.row.improve_from.Goals as goal

pub returns-then-start-lt-FAR-clause-each : goal.returns-then-start-lt-FAR-clause-each
returns-then-start-lt-FAR-clause-each c =
    let e = c.cell_at-start.ensures in
    let fr : SFits w64 c.cell_at-start.result = search rules in
    let fc : SFits w64 c.args.c = search rules in
    let t : lt_z (to_z w64 (of_z w64 c.cell_at-start.result)) far ≡ true = c.if-start-lt-FAR.true in
    let u : lt_z c.cell_at-start.result far ≡ true = rw (to_z-of_z w64 c.cell_at-start.result fr) at t in
    let v : cell c.args.cells.now c.args.a <ℤ far = rw (← e) (grind (arith, ints, u)) in
    let r : Within 1073741824 c.cell_at-start.result = rw e (c.requires.start v) in
    λ y ly. lowered-from _ _ _ (cell c.args.from.now y) (cell c.args.cells.now y) _ fr fc (Within-add _ _ r c.requires.few) e t (c.improve_cells.ensures.each y ly)
