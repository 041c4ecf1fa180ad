use Rattle.std.proofs.Common.{rules, w64}
use Rattle.std.proofs.lemmas.Int.{to_z-of_z}
use mir.Val.{SFits}
use Rattle.bound_table.proofs.Improve.{Adds-improved, IsTable-improved, row-range, entry-range}
use Rattle.bound_table.proofs.table.tighten.Goals as goal

pub improve_rows-requires-clause-small : goal.improve_rows-requires-clause-small
improve_rows-requires-clause-small c = row-range c.args.rows.now c.args.from.now c.args.b c.requires.table c.requires.b c.requires.from

pub improve_rows-requires-clause-start : goal.improve_rows-requires-clause-start
improve_rows-requires-clause-start c = λ x lx h. entry-range c.args.rows.now x c.args.a c.requires.table lx c.requires.a h

pub returns-clause-adds : goal.returns-clause-adds
returns-clause-adds c =
    let fc : SFits w64 c.args.c = search rules in
    Adds-improved c.args.rows.now c.improve_rows.new.rows c.args.from.now c.args.a c.args.b c.args.c c.requires.from c.requires.table c.requires.a c.requires.b c.requires.few c.requires.fits c.improve_rows.ensures.long c.improve_rows.ensures.wide (simp to_z-of_z at c.improve_rows.ensures.each)

pub returns-clause-table : goal.returns-clause-table
returns-clause-table c =
    let fc : SFits w64 c.args.c = search rules in
    IsTable-improved c.args.rows.now c.improve_rows.new.rows c.args.from.now c.args.a c.args.b c.args.c c.requires.from c.requires.table c.requires.a c.requires.b c.requires.few c.requires.fits c.improve_rows.ensures.long c.improve_rows.ensures.wide (simp to_z-of_z at c.improve_rows.ensures.each)
