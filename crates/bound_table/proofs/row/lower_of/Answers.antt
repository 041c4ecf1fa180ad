use Rattle.std.proofs.Common.{rules, ◌≡◌, ◌∙◌, refl, true, w64, to_z, of_z, arith}
use Rattle.std.specs.Int.Signed.{◌<ℤ◌, lt_z}
use Rattle.std.proofs.lemmas.Int.{ints, to_z-of_z}
use mir.Val.{SFits}
use Rattle.bound_table.specs.Rows.{far}
use Rattle.bound_table.proofs.Sets.{Within-add, lowered-from}
use Rattle.bound_table.proofs.row.lower_of.Goals as goal

pub returns-then-start-lt-FAR : goal.returns-then-start-lt-FAR
returns-then-start-lt-FAR c =
    let fr : SFits w64 c.args.start = search rules in
    let fc : SFits w64 c.args.c = search rules in
    let ff : SFits w64 c.args.from = search rules in
    let fo : SFits w64 c.args.old = search rules in
    let t : lt_z (to_z w64 (of_z w64 c.args.start)) far ≡ true = c.if-start-lt-FAR.true in
    let u : lt_z c.args.start far ≡ true = rw (to_z-of_z w64 c.args.start fr) at t in
    let v : c.args.start <ℤ far = grind (arith, ints, u) in
    let h = rw (to_z-of_z w64 c.args.from ff, to_z-of_z w64 c.args.old fo) at c.improved.ensures in
    let fr2 : SFits w64 c.improved.result = search rules in
    to_z-of_z w64 c.improved.result fr2 ∙ lowered-from c.args.start c.args.c c.args.start c.args.from c.args.old c.improved.result fr fc (Within-add c.args.start c.args.c (c.requires.start v) c.requires.few) refl t h
